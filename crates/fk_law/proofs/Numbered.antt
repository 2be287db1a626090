-- Commits in the order of their numbers.
use Rattle.std.specs.Prelude.{nat_le, nat_eq}
use Rattle.std.proofs.Common.{◌≡◌, ℕ, zero, suc, ◌≤◌, Bool, true, false, cond, List, [], ◌∷◌, refl, sym, ◌∙◌, ap, subst, arith, Option, Some, None}
use Rattle.std.proofs.lemmas.Bool.{false≢true}
use Rattle.std.proofs.lemmas.Bool.Decides.{nat_tests}
use Rattle.fk_base.specs.Path.{PathNames}
use Rattle.fk_tree.specs.Edit.{after, view_after}
use Rattle.fk_tree.specs.Sorted.{has_path}
use Rattle.fk_tree.specs.Touch.{edited_paths}
use Rattle.fk_tree.specs.declared.applied.Applied.{Applied}
use Rattle.fk_print.specs.declared.entry.Entry.{Entry}
use Rattle.fk_print.specs.declared.op.Op.{Op}
use Rattle.fk_print.specs.declared.op.Op.TheVariants as op
use Rattle.fk_law_tree.specs.Fitting.{Fits}
use Rattle.fk_law_tree.specs.Following.{AllFit}
use Rattle.fk_law_tree.proofs.Growing.{views_are_trees}
use Rattle.fk_law_tree.proofs.Parting.{apart_commute}
use Rattle.fk_spec.specs.Plan.{Plan}
use Rattle.fk_spec.specs.Settling.{is_committed}
use Rattle.fk_spec.specs.Stored.{committed_of, committed_in, committed_as, applied_as, with_filled, up_to}
use Rattle.fk_spec.specs.Next.{IsHistory}
use Rattle.fk_law.specs.Due.{IsDue}
use Rattle.fk_law.specs.Numbered.{with_some, numbered, NumberedLeaveTheSame, NumberedFit, NumberedTreeIsShown}
use Rattle.fk_law.specs.Numbering.{IsNewest, AllNewest}
use Rattle.fk_law.proofs.Due.{due}
use Rattle.fk_law.proofs.Committing.{commits_once}
use Rattle.fk_law.proofs.Sending.{was_committed}
use Rattle.fk_law.proofs.Leaving.{commit_is}
use Rattle.fk_law.proofs.Beyond.{commits_rise}
use Rattle.fk_law.proofs.Numbering.{IsKnown, AllKnown, all_known}
use Rattle.fk_law.proofs.Closes.{commit_fits_at_its_number}
use Rattle.fk_base.proofs.Logic.{by_test}

-- Each number once. -----------------------------------------------------------------------------------

abbrev pub AllOnce : List Applied → Type 0
AllOnce [] = Unit {0}
AllOnce (a ∷ done) = (applied_as a.tx done ≡ None) × AllOnce done

not_yet : (p : Plan) (t : ℕ) (h : List Entry) → is_committed t h ≡ false → (o : Option Applied) → committed_as p t h ≡ o → o ≡ None
not_yet p t h e None q = refl
not_yet p t h e (Some a) q = absurd (false≢true (sym e ∙ was_committed p t h a q))

once_step : (p : Plan) (h : List Entry) (o : Op) → IsHistory p h → IsDue p h o → AllOnce (committed_of p h) → AllOnce (committed_in p h o (committed_of p h))
once_step p h (op.CommitOk a t) l d i = subst (λ z. AllOnce (with_filled (committed_of p h) t z)) (sym (commit_is p a t h l d).is) (not_yet p t h (commits_once p a t h l d) (committed_as p t h) refl, i)
once_step p h o l d i = i

pub all_once : (p : Plan) (h : List Entry) → IsHistory p h → AllOnce (committed_of p h)
all_once p [] l = tt
all_once p (e ∷ h) l = once_step p h e.op l.0 (due p e h l) (all_once p h l.0)

-- One number more. ------------------------------------------------------------------------------------

same_test : (a n : ℕ) → nat_eq a (suc n) ≡ false → nat_le a (suc n) ≡ nat_le a n
same_test a n e = grind (arith, nat_tests)

own_test : (a n : ℕ) → nat_eq a (suc n) ≡ true → (nat_le a (suc n) ≡ true) × (nat_le a n ≡ false)
own_test a n e = grind (arith, nat_tests)

-- where no commit has the number
no_more_step : (n : ℕ) (b : Applied) (rest : List Applied) → (applied_as (suc n) rest ≡ None → up_to (suc n) rest ≡ up_to n rest) → applied_as (suc n) (b ∷ rest) ≡ None → up_to (suc n) (b ∷ rest) ≡ up_to n (b ∷ rest)
no_more_step n b rest i e = by_push (nat_eq b.tx (suc n)) refl e
  where
    by_push : (z : Bool) → nat_eq b.tx (suc n) ≡ z → cond z (Some b) (applied_as (suc n) rest) ≡ None → cond (nat_le b.tx (suc n)) (b ∷ up_to (suc n) rest) (up_to (suc n) rest) ≡ cond (nat_le b.tx n) (b ∷ up_to n rest) (up_to n rest)
    by_push true v e = absurd (grind arith)
    by_push false v e = ap (λ z. cond z (b ∷ up_to (suc n) rest) (up_to (suc n) rest)) (same_test b.tx n v) ∙ ap (λ ys. cond (nat_le b.tx n) (b ∷ ys) ys) (i e)

no_more : (n : ℕ) (done : List Applied) → applied_as (suc n) done ≡ None → up_to (suc n) done ≡ up_to n done
no_more n [] e = refl
no_more n (b ∷ rest) e = no_more_step n b rest (no_more n rest) e

known_step : (done rest : List Applied) (t : ℕ) (b a : Applied) → IsKnown done b → (applied_as t rest ≡ Some a → (a.tx ≡ t) × IsKnown done a) → applied_as t (b ∷ rest) ≡ Some a → (a.tx ≡ t) × IsKnown done a
known_step done rest t b a k i e = by_push (nat_eq b.tx t) refl e
  where
    same : (x y : Applied) → Some x ≡ Some y → x ≡ y
    same x y e = cc

    by_push : (z : Bool) → nat_eq b.tx t ≡ z → cond z (Some b) (applied_as t rest) ≡ Some a → (a.tx ≡ t) × IsKnown done a
    by_push true v e = let s : b.tx ≡ t = grind (arith, nat_tests) in subst (λ x. (x.tx ≡ t) × IsKnown done x) (same b a e) (s, k)
    by_push false v e = i e

known_of : (done rest : List Applied) (t : ℕ) (a : Applied) → AllKnown done rest → applied_as t rest ≡ Some a → (a.tx ≡ t) × IsKnown done a
known_of done [] t a k e = absurd (grind arith)
known_of done (b ∷ rest) t a k e = known_step done rest t b a k.0 (known_of done rest t a k.1) e

-- the commit of the number, put behind those of lesser numbers
one_more_step : (n : ℕ) (b a : Applied) (rest : List Applied) → IsNewest rest b → AllNewest rest → applied_as b.tx rest ≡ None → (applied_as (suc n) rest ≡ Some a → view_after (up_to (suc n) rest) ≡ after (view_after (up_to n rest)) a)
    → applied_as (suc n) (b ∷ rest) ≡ Some a → view_after (up_to (suc n) (b ∷ rest)) ≡ after (view_after (up_to n (b ∷ rest))) a
one_more_step n b a rest m k u i e = by_push (nat_eq b.tx (suc n)) refl e
  where
    same : (x y : Applied) → Some x ≡ Some y → x ≡ y
    same x y e = cc

    first : nat_eq b.tx (suc n) ≡ true → view_after (up_to (suc n) (b ∷ rest)) ≡ after (view_after (up_to n (b ∷ rest))) b
    first v =
        let w = own_test b.tx n v in
        let s : b.tx ≡ suc n = grind (arith, nat_tests) in
        rw (w.0, w.1) (ap (λ ys. after (view_after ys) b) (no_more n rest (ap (λ t. applied_as t rest) (sym s) ∙ u)))

    apart : applied_as (suc n) rest ≡ Some a → nat_le b.tx n ≡ true → (q : PathNames) → has_path q (edited_paths a) ≡ true → has_path q (edited_paths b) ≡ false
    apart e v q x = by_test (has_path q (edited_paths b)) (λ z. z ≡ false) (λ y. absurd (too_late (known_of rest rest (suc n) a (all_known rest k) e) y)) (λ _. refl)
      where
        too_late : (a.tx ≡ suc n) × IsKnown rest a → has_path q (edited_paths b) ≡ true → ⊥
        too_late f y = let g = f.1.paths q x in let j = m.paths q y in let c = f.0 in let d : b.tx ≤ n = grind (arith, nat_tests) in omega (arith, g, j, c, d)

    later : applied_as (suc n) rest ≡ Some a → (z : Bool) → nat_le b.tx n ≡ z → view_after (cond z (b ∷ up_to (suc n) rest) (up_to (suc n) rest)) ≡ after (view_after (cond z (b ∷ up_to n rest) (up_to n rest))) a
    later e true v = ap (λ x. after x b) (i e) ∙ apart_commute (view_after (up_to n rest)) a b (apart e v)
    later e false v = i e

    by_push : (z : Bool) → nat_eq b.tx (suc n) ≡ z → cond z (Some b) (applied_as (suc n) rest) ≡ Some a → view_after (up_to (suc n) (b ∷ rest)) ≡ after (view_after (up_to n (b ∷ rest))) a
    by_push true v e = subst (λ x. view_after (up_to (suc n) (b ∷ rest)) ≡ after (view_after (up_to n (b ∷ rest))) x) (same b a e) (first v)
    by_push false v e = ap (λ z. view_after (cond z (b ∷ up_to (suc n) rest) (up_to (suc n) rest))) (same_test b.tx n v) ∙ later e (nat_le b.tx n) refl

pub one_more : (n : ℕ) (done : List Applied) (a : Applied) → AllNewest done → AllOnce done → applied_as (suc n) done ≡ Some a → view_after (up_to (suc n) done) ≡ after (view_after (up_to n done)) a
one_more n [] a m u e = absurd (grind arith)
one_more n (b ∷ rest) a m u e = one_more_step n b a rest m.0 m.1 u.0 (one_more n rest a m.1 u.1) e

-- Their order. ----------------------------------------------------------------------------------------

none_numbered_step : (b : Applied) (rest : List Applied) → 1 ≤ b.tx → up_to 0 rest ≡ [] → up_to 0 (b ∷ rest) ≡ []
none_numbered_step b rest e i = let s : nat_le b.tx 0 ≡ false = grind (arith, nat_tests) in rw s i

none_numbered : (done : List Applied) → AllNewest done → up_to 0 done ≡ []
none_numbered [] m = refl
none_numbered (b ∷ rest) m = none_numbered_step b rest (let s = m.0.session in omega (arith, s)) (none_numbered rest m.1)

numbered_step : (n : ℕ) (done : List Applied) → AllNewest done → AllOnce done → view_after (numbered n done) ≡ view_after (up_to n done) → (o : Option Applied) → applied_as (suc n) done ≡ o → view_after (with_some o (numbered n done)) ≡ view_after (up_to (suc n) done)
numbered_step n done m u i None e = i ∙ ap view_after (sym (no_more n done e))
numbered_step n done m u i (Some a) e = ap (λ v. after v a) i ∙ sym (one_more n done a m u e)

numbered_same : (n : ℕ) (done : List Applied) → AllNewest done → AllOnce done → view_after (numbered n done) ≡ view_after (up_to n done)
numbered_same zero done m u = ap view_after (sym (none_numbered done m))
numbered_same (suc n) done m u = numbered_step n done m u (numbered_same n done m u) (applied_as (suc n) done) refl

pub numbered_leave_the_same : NumberedLeaveTheSame
numbered_leave_the_same p n h l = numbered_same n (committed_of p h) (commits_rise p h l) (all_once p h l)

fit_step : (p : Plan) (n : ℕ) (h : List Entry) → IsHistory p h → AllFit (numbered n (committed_of p h)) → (o : Option Applied) → committed_as p (suc n) h ≡ o → AllFit (with_some o (numbered n (committed_of p h)))
fit_step p n h l i None e = i
fit_step p n h l i (Some a) e = (subst (λ v. Fits v a) (sym (numbered_leave_the_same p n h l)) (commit_fits_at_its_number p n (suc n) h a l e (omega arith)), i)

pub numbered_fit : NumberedFit
numbered_fit p zero h l = tt
numbered_fit p (suc n) h l = fit_step p n h l (numbered_fit p n h l) (committed_as p (suc n) h) refl

pub numbered_tree_is_shown : NumberedTreeIsShown
numbered_tree_is_shown p n h l = views_are_trees (numbered n (committed_of p h)) (numbered_fit p n h l)
