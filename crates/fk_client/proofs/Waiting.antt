-- Of a client's commands none but the last has to be waited for.
use Rattle.std.proofs.Common.{◌≡◌, ◌<◌, ℕ, suc, ◌-◌, Bool, true, false, cond, List, [], ◌∷◌, ◌++◌, length, get_or, Some, None, refl, ap, arith, subst, sym}
use Rattle.std.specs.Prelude.{◌==◌, ◌&&◌}
use Rattle.fk_spec.specs.Client.{all_go_on, goes_on, is_none_sent, is_open, is_ready, number_looked_for, target_sent, target_with, with_told}
use Rattle.fk_spec.specs.Plan.{Ask, nth}
use Rattle.fk_client.specs.Known.{by_outcome, is_first_ready, known}
use Rattle.fk_client.specs.Unanswered.{IsFirst, front_goes_on, last_goes_on, last_of, places_of}
use Rattle.fk_client.specs.declared.unanswered.Outcome.{Outcome}
use Rattle.fk_client.specs.declared.unanswered.Unanswered.{Unanswered}

both : (a b : Bool) → a && b ≡ true → (a ≡ true) × (b ≡ true)
both true b e = (refl, e)
both false b e = absurd (grind arith)

pub front_tail : (asks : List Ask) (s : Unanswered) (ss : List Unanswered) → front_goes_on asks (places_of (s ∷ ss)) ≡ true → front_goes_on asks (places_of ss) ≡ true
front_tail asks s [] e = refl
front_tail asks s (t ∷ ss) e = (both (goes_on (nth asks s.command)) (front_goes_on asks (places_of (t ∷ ss))) e).1

-- one more comes where none has to be waited for
pub front_more : (asks : List Ask) (ss : List Unanswered) (s : Unanswered) → all_go_on by_outcome asks ss ≡ true → front_goes_on asks (places_of (ss ++ s ∷ [])) ≡ true
front_more asks [] s e = refl
front_more asks (r ∷ []) s e = e
front_more asks (r ∷ t ∷ ss) s e =
    let b = both (goes_on (nth asks r.command)) (all_go_on by_outcome asks (t ∷ ss)) e in
    rw (b.0) (front_more asks (t ∷ ss) s b.1)

-- what is told of a command leaves its place
told_places : (k : ℕ) (o : Outcome) (ss : List Unanswered) → places_of (with_told by_outcome k o ss) ≡ places_of ss
told_places k o [] = refl
told_places k o (s ∷ ss) = step ((s.k == k) && is_open (known s.outcome)) (told_places k o ss)
  where
    step : (b : Bool) → places_of (with_told by_outcome k o ss) ≡ places_of ss → places_of (cond b (record s { outcome = o } ∷ ss) (s ∷ with_told by_outcome k o ss)) ≡ s.command ∷ places_of ss
    step true e = refl
    step false e = ap (λ is. s.command ∷ is) e

pub front_told : (asks : List Ask) (k : ℕ) (o : Outcome) (ss : List Unanswered) → front_goes_on asks (places_of ss) ≡ true → front_goes_on asks (places_of (with_told by_outcome k o ss)) ≡ true
front_told asks k o ss e = rw (told_places k o ss) e

pub last_goes : (asks : List Ask) (ss : List Unanswered) → front_goes_on asks (places_of ss) ≡ true → all_go_on by_outcome asks ss ≡ last_goes_on asks (last_of ss)
last_goes asks [] e = refl
last_goes asks (s ∷ []) e = step (goes_on (nth asks s.command))
  where
    step : (b : Bool) → b && true ≡ b
    step true = refl
    step false = refl
last_goes asks (s ∷ t ∷ ss) e =
    let b = both (goes_on (nth asks s.command)) (front_goes_on asks (places_of (t ∷ ss))) e in
    rw (b.0) (last_goes asks (t ∷ ss) b.1)

pub last_is : (ss : List Unanswered) (s : Unanswered) → 0 < length ss → s ≡ get_or ss (length ss - 1) s → last_of ss ≡ Some s
last_is [] s l e = let none : ⊥ = omega arith in absurd none
last_is (r ∷ []) s l e = ap Some (sym e)
last_is (r ∷ t ∷ ss) s l e =
    let n : length (r ∷ t ∷ ss) - 1 ≡ suc (length (t ∷ ss) - 1) = omega arith in
    last_is (t ∷ ss) s (omega arith) (subst (λ i. s ≡ get_or (r ∷ t ∷ ss) i s) n e)

pub first_is : (ss : List Unanswered) (s : Unanswered) → 0 < length ss → s ≡ get_or ss 0 s → IsFirst s ss
first_is [] s l e = let none : ⊥ = omega arith in absurd none
first_is (r ∷ rs) s l e = sym e

pub first_sent : (ss : List Unanswered) (s : Unanswered) → IsFirst s ss → is_none_sent ss ≡ false
first_sent [] s e = absurd e
first_sent (r ∷ rs) s e = refl

pub first_target : (ss : List Unanswered) (s : Unanswered) → IsFirst s ss → target_sent by_outcome ss ≡ target_with s.command (number_looked_for (known s.outcome))
first_target [] s e = absurd e
first_target (r ∷ rs) s e = ap (λ x. target_with x.command (number_looked_for (known x.outcome))) e

pub first_ready : (ss : List Unanswered) (s : Unanswered) → IsFirst s ss → is_first_ready ss ≡ is_ready (known s.outcome)
first_ready [] s e = absurd e
first_ready (r ∷ rs) s e = ap (λ x. is_ready (known x.outcome)) e

pub last_none : (ss : List Unanswered) → length ss ≡ 0 → last_of ss ≡ None
last_none [] e = refl
last_none (s ∷ ss) e = let none : ⊥ = omega (arith, e) in absurd none
