-- A follower that loses has found a loss.
use Rattle.std.specs.Prelude.{◌==◌, ◌&&◌, is_some}
use Rattle.std.proofs.Common.{◌≡◌, ℕ, ◌+◌, Bool, true, false, List, [], ◌∷◌, refl, sym, ◌∙◌, ap, subst, arith, Option, Some, None}
use Rattle.std.proofs.lemmas.Bool.{false≢true}
use Rattle.std.proofs.lemmas.Bool.Decides.{nat_tests}
use Rattle.fk_print.specs.declared.entry.Entry.{Entry}
use Rattle.fk_print.specs.declared.op.Op.{Op}
use Rattle.fk_print.specs.declared.op.Op.TheVariants as op
use Rattle.fk_spec.specs.Plan.{Plan}
use Rattle.fk_spec.specs.Locks.{loss_of, loss_in}
use Rattle.fk_spec.specs.Settling.{Settling, Passed, settled_in, settled_of, outcome_of, outcome_here}
use Rattle.fk_spec.specs.Follower.{Follower}
use Rattle.fk_spec.specs.Function.{Following, place_of, actor}
use Rattle.fk_spec.specs.Next.{IsHistory}
use Rattle.fk_law.specs.Due.{IsDue}
use Rattle.fk_law.specs.Progress.{Progress, Loses, progress, progress_after}
use Rattle.fk_law.specs.Losses.{LoserHasFound, LostHasALoss}
use Rattle.fk_law.proofs.Due.{due}
use Rattle.fk_law.proofs.Moving.{OnFollower, follower_step}
use Rattle.fk_law.proofs.Losses.{IsLostNow, lost_now, here_is, here_not}

abbrev FoundSo : Bool → Progress → Type 0
FoundSo found Loses = found ≡ true
FoundSo found _ = Unit {0}

abbrev FoundIn : ℕ → List Entry → ℕ → ℕ → Progress → Type 0
FoundIn n h c k q = FoundSo (is_some (loss_of n h)) q

found_stays : (n : ℕ) (h : List Entry) (o : Op) (q : Progress) → FoundSo (is_some (loss_of n h)) q → FoundSo (is_some (loss_in n h o (loss_of n h))) q
found_stays n h o q i = grind (arith, nat_tests)

found_moves : (p : Plan) (n : ℕ) (h : List Entry) (o : Op) (f : Follower) → IsDue p h o → place_of p n h ≡ Following f → actor o ≡ Some n → FoundSo (is_some (loss_of n h)) (progress f.stage) → FoundSo (is_some (loss_in n h o (loss_of n h))) (progress_after o (progress f.stage))
found_moves p n h o f d e a i = grind (arith, nat_tests)

found_step : (p : Plan) (n : ℕ) (e : Entry) (h : List Entry) → IsHistory p (e ∷ h) → OnFollower (FoundIn n h) (place_of p n h) → OnFollower (FoundIn n (e ∷ h)) (place_of p n (e ∷ h))
found_step p n e h l i =
    follower_step p n h e.op (place_of p n h) (FoundIn n (e ∷ h))
    (λ f b _. found_stays n h e.op (progress f.stage) (subst (OnFollower (FoundIn n h)) b i))
    (λ c k _. tt)
    (λ f b a. found_moves p n h e.op f (due p e h l) b a (subst (OnFollower (FoundIn n h)) b i))

found : (p : Plan) (n : ℕ) (h : List Entry) → IsHistory p h → OnFollower (FoundIn n h) (place_of p n h)
found p n [] l = tt
found p n (e ∷ h) l = found_step p n e h l (found p n h l.0)

pub loser_has_found : LoserHasFound
loser_has_found p n h f l b s = subst (λ q. FoundSo (is_some (loss_of n h)) q) (ap progress s) (subst (OnFollower (FoundIn n h)) b (found p n h l))

none_now : (p : Plan) (c : ℕ) (e : Entry) (h : List Entry) → IsHistory p (e ∷ h) → IsLostNow c None h e.op → ⊥
none_now p c e h l i =
    let d : IsDue p h (op.LostOk i.function) = subst (IsDue p h) i.op_is (due p e h l) in
    let f = loser_has_found p i.function h d.0 l.0 d.1 d.2 in
    false≢true (sym (ap (λ o. is_some o) i.loss) ∙ f)

none_step : (p : Plan) (c k : ℕ) (e : Entry) (h : List Entry) (o : Option Settling) → settled_in h e.op ≡ o → IsHistory p (e ∷ h) → (outcome_of c k h ≡ Some (Passed None) → ⊥) → outcome_here c k (settled_of c h) o (outcome_of c k h) ≡ Some (Passed None) → ⊥
none_step p c k e h None b l i a = i a
none_step p c k e h (Some z) b l i a = by_test ((z.session == c) && (settled_of c h + 1 == k)) refl
  where
    by_test : (d : Bool) → ((z.session == c) && (settled_of c h + 1 == k)) ≡ d → ⊥
    by_test false f = i (here_not c k (settled_of c h) (Passed None) z (outcome_of c k h) a f)
    by_test true f = let g = here_is c k (settled_of c h) (Passed None) z (outcome_of c k h) a f in none_now p c e h l (lost_now c None h e.op (b ∙ ap Some g.0))

pub lost_has_a_loss : LostHasALoss
lost_has_a_loss p c k [] l a = grind arith
lost_has_a_loss p c k (e ∷ h) l a = none_step p c k e h (settled_in h e.op) refl l (lost_has_a_loss p c k h l.0) a
