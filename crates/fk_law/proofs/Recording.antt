-- A follower's records are of the paths that it was granted.
use Rattle.std.specs.Prelude.{◌==◌}
use Rattle.std.proofs.Common.{◌≡◌, ◌≢◌, ℕ, ◌++◌, true, List, [], ◌∷◌, refl, sym, ◌∙◌, ap, subst, arith, Some}
use Rattle.std.proofs.lemmas.Bool.{cond_both}
use Rattle.std.proofs.lemmas.Bool.Decides.{nat_tests}
use Rattle.fk_base.specs.Path.{PathNames}
use Rattle.fk_tree.specs.Edit.{closes}
use Rattle.fk_tree.specs.Sorted.{has_path}
use Rattle.fk_tree.specs.declared.request.Request.{Request}
use Rattle.fk_tree.proofs.Order.{same_path_self}
use Rattle.fk_print.specs.declared.entry.Entry.{Entry}
use Rattle.fk_print.specs.declared.op.Op.{Op}
use Rattle.fk_print.specs.declared.op.Op.TheVariants as op
use Rattle.fk_spec.specs.Plan.{Plan}
use Rattle.fk_spec.specs.Start.{Follows, seen_with}
use Rattle.fk_spec.specs.Locks.{granted, granted_in}
use Rattle.fk_spec.specs.Settling.{last_of_session}
use Rattle.fk_spec.specs.Follower.{Follower, Granted, next_with, to_lock, paths_of}
use Rattle.fk_spec.specs.Follower as follower
use Rattle.fk_spec.specs.Function.{place_of, actor}
use Rattle.fk_spec.specs.Next.{IsHistory}
use Rattle.fk_law_tree.proofs.Members.{or_left}
use Rattle.fk_law.specs.Due.{IsDue}
use Rattle.fk_law.specs.Seeing.{RecordsAreOfItsGrants}
use Rattle.fk_law.proofs.Due.{due}
use Rattle.fk_law.proofs.Standing.{OnStanding, standing_step}
use Rattle.fk_law.proofs.Starting.{task_bound}
use Rattle.fk_law.proofs.Locking.{locks_are_followers}
use Rattle.fk_law.proofs.Deciding.{paths_more}

-- what an answer adds to a follower's records
pub granted_after : (p : Plan) (h : List Entry) (r : Request) (m : ℕ) (f : Follower) → (next_with p h r (op.SessionNew m) f).granted ≡ f.granted
granted_after p h r m f = cond_both (closes r) (record f { last = last_of_session f.session h; stage = follower.Owned }) (to_lock (seen_with f.session f.k h) r (record f { last = last_of_session f.session h })) (λ g. g.granted ≡ f.granted) (λ _. refl) (λ _. refl)

grants_move : (p : Plan) (n : ℕ) (h : List Entry) (r : Request) (o : Op) (f : Follower) (ps : List PathNames) → actor o ≡ Some n → paths_of f.granted ≡ ps → paths_of (next_with p h r o f).granted ≡ granted_in n o ps
grants_move p n h r (op.SessionNew m) f ps a i = ap paths_of (granted_after p h r m f) ∙ i
grants_move p n h r (op.LockOk m path) f ps a i = let g : (m == n) ≡ true = grind (arith, nat_tests) in rw g (paths_more f.granted _ ∙ ap (λ qs. qs ++ path ∷ []) i)
grants_move p n h r o f ps a i = i

grants_stay : (n : ℕ) (o : Op) (ps : List PathNames) → actor o ≢ Some n → granted_in n o ps ≡ ps
grants_stay n o ps a = grind (arith, nat_tests)

fresh_grants : (p : Plan) (n c k : ℕ) (h : List Entry) → IsHistory p h → IsDue p h (op.Follower n c k) → granted n h ≡ []
fresh_grants p n c k h l d = by_grants (granted n h) refl
  where
    by_grants : (ps : List PathNames) → granted n h ≡ ps → ps ≡ []
    by_grants [] e = refl
    by_grants (q ∷ ps) e =
        let t = locks_are_followers p n q h l (ap (has_path q) e ∙ or_left _ _ (same_path_self q)) in
        let b = task_bound p n h (Follows t.0 t.1) l t.2 in
        absurd (omega (arith, b.1, d.0))

abbrev GrantsIn : ℕ → List Entry → Follower → Type 0
GrantsIn n h f = paths_of f.granted ≡ granted n h

records_step : (p : Plan) (n : ℕ) (e : Entry) (h : List Entry) → IsHistory p (e ∷ h) → OnStanding (GrantsIn n h) (place_of p n h) → OnStanding (GrantsIn n (e ∷ h)) (place_of p n (e ∷ h))
records_step p n e h l i =
    standing_step p n h e.op (place_of p n h) (GrantsIn n (e ∷ h))
    (λ f b a. subst (OnStanding (GrantsIn n h)) b i ∙ sym (grants_stay n e.op (granted n h) a))
    (λ c k b. sym (ap (λ o. granted_in n o (granted n h)) b ∙ fresh_grants p n c k h l.0 (subst (IsDue p h) b (due p e h l))))
    (λ f r b a q. grants_move p n h r e.op f (granted n h) a (subst (OnStanding (GrantsIn n h)) b i))

records : (p : Plan) (n : ℕ) (h : List Entry) → IsHistory p h → OnStanding (GrantsIn n h) (place_of p n h)
records p n [] l = tt
records p n (e ∷ h) l = records_step p n e h l (records p n h l.0)

pub records_are_of_its_grants : RecordsAreOfItsGrants
records_are_of_its_grants p n h f l b = subst (OnStanding (GrantsIn n h)) b (records p n h l)
