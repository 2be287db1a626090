-- Commits by their numbers.
use Rattle.std.specs.Prelude.{nat_le, nat_eq}
use Rattle.std.proofs.Common.{◌≡◌, ◌≢◌, ℕ, ◌+◌, ◌<◌, ◌≤◌, Bool, true, false, cond, eqb, ◌||◌, List, [], ◌∷◌, refl, sym, ◌∙◌, ap, subst, arith, Some}
use Rattle.std.proofs.lemmas.Bool.Decides.{nat_tests}
use Rattle.std.proofs.lemmas.Bool.{le-leb, leb-true}
use Rattle.fk_base.specs.Path.{PathNames}
use Rattle.fk_tree.specs.Edit.{after, closes, edited, effects, view_after}
use Rattle.fk_tree.specs.Sorted.{has_path}
use Rattle.fk_tree.specs.Touch.{edited_paths}
use Rattle.fk_tree.specs.View.{View}
use Rattle.fk_tree.specs.declared.applied.Applied.{Applied}
use Rattle.fk_law_tree.specs.Fitting.{Fits}
use Rattle.fk_law_tree.specs.Locking.{ListsOwned}
use Rattle.fk_law_tree.proofs.Counting.{unedited_stays}
use Rattle.fk_law_tree.proofs.Holding.{fits_by_its_edits}
use Rattle.fk_law_tree.proofs.Parting.{fits_after_others}
use Rattle.fk_spec.specs.Stored.{applied_as, last_editor, up_to}
use Rattle.fk_law.specs.Numbering.{last_in, IsNewest, AllNewest}
use Rattle.fk_base.proofs.Logic.{by_test}

test_not : (a b : ℕ) → b < a → nat_le a b ≡ false
test_not a b e = grind (arith, nat_tests)

-- What counts up to a number. -------------------------------------------------------------------------

node_step : (n : ℕ) (q : PathNames) (a : Applied) (done : List Applied) → IsNewest done a → (last_editor q done ≤ n → (view_after (up_to n done)).node q ≡ (view_after done).node q) → last_editor q (a ∷ done) ≤ n → (view_after (up_to n (a ∷ done))).node q ≡ (view_after (a ∷ done)).node q
node_step n q a done i f b = by_edit (has_path q (edited_paths a)) refl b
  where
    by_number : has_path q (edited_paths a) ≡ false → last_editor q done ≤ n → (z : Bool) → nat_le a.tx n ≡ z → (view_after (cond z (a ∷ up_to n done) (up_to n done))).node q ≡ (view_after done).node q
    by_number e b true u = unedited_stays (view_after (up_to n done)) a q e ∙ f b
    by_number e b false u = f b

    by_edit : (z : Bool) → has_path q (edited_paths a) ≡ z → cond z a.tx (last_editor q done) ≤ n → (view_after (up_to n (a ∷ done))).node q ≡ (view_after (a ∷ done)).node q
    by_edit true e b = rw (le-leb a.tx n b) (ap (edited a.tx a.moment q (effects a)) (f (let w = i.paths q e in omega (arith, b, w))))
    by_edit false e b = by_number e b (nat_le a.tx n) refl ∙ sym (unedited_stays (view_after done) a q e)

pub node_counts : (n : ℕ) (q : PathNames) (done : List Applied) → AllNewest done → last_editor q done ≤ n → (view_after (up_to n done)).node q ≡ (view_after done).node q
node_counts n q [] i b = refl
node_counts n q (a ∷ done) i b = node_step n q a done i.0 (node_counts n q done i.1) b

-- a commit closes its own session alone
pub closed_apart : (v : View) (a : Applied) (c : ℕ) → nat_eq a.session c ≡ false → (after v a).closed c ≡ v.closed c
closed_apart v a c e = step (closes a.request)
  where
    step : (b : Bool) → cond b (eqb a.session c || v.closed c) (v.closed c) ≡ v.closed c
    step true = rw e refl
    step false = refl

closed_step : (n c : ℕ) (a : Applied) (done : List Applied) → IsNewest done a → (last_in c done ≤ n → (view_after (up_to n done)).closed c ≡ (view_after done).closed c) → last_in c (a ∷ done) ≤ n → (view_after (up_to n (a ∷ done))).closed c ≡ (view_after (a ∷ done)).closed c
closed_step n c a done i f b = by_session (nat_eq a.session c) refl b
  where
    by_number : nat_eq a.session c ≡ false → last_in c done ≤ n → (z : Bool) → nat_le a.tx n ≡ z → (view_after (cond z (a ∷ up_to n done) (up_to n done))).closed c ≡ (view_after done).closed c
    by_number e b true u = closed_apart (view_after (up_to n done)) a c e ∙ f b
    by_number e b false u = f b

    low : nat_eq a.session c ≡ true → a.tx ≤ n → last_in c done ≤ n
    low e b = let s : a.session ≡ c = grind (arith, nat_tests) in let w : last_in c done < a.tx = subst (λ z. last_in z done < a.tx) s i.session in omega (arith, b, w)

    by_session : (z : Bool) → nat_eq a.session c ≡ z → cond z a.tx (last_in c done) ≤ n → (view_after (up_to n (a ∷ done))).closed c ≡ (view_after (a ∷ done)).closed c
    by_session true e b = rw (le-leb a.tx n b) (ap (λ x. cond (closes a.request) (eqb a.session c || x) x) (f (low e b)))
    by_session false e b = by_number e b (nat_le a.tx n) refl ∙ sym (closed_apart (view_after done) a c e)

pub closed_counts : (n c : ℕ) (done : List Applied) → AllNewest done → last_in c done ≤ n → (view_after (up_to n done)).closed c ≡ (view_after done).closed c
closed_counts n c [] i b = refl
closed_counts n c (a ∷ done) i b = closed_step n c a done i.0 (closed_counts n c done i.1) b

-- none is beyond this number
abbrev pub AllAtMost : ℕ → List Applied → Type 0
AllAtMost b [] = Unit {0}
AllAtMost b (a ∷ done) = (a.tx ≤ b) × AllAtMost b done

pub more_at_most : (b n : ℕ) (done : List Applied) → b ≤ n → AllAtMost b done → AllAtMost n done
more_at_most b n [] e i = tt
more_at_most b n (a ∷ done) e i = (let w = i.0 in omega (arith, e, w), more_at_most b n done e i.1)

pub all_counted : (n : ℕ) (done : List Applied) → AllAtMost n done → up_to n done ≡ done
all_counted n [] i = refl
all_counted n (a ∷ done) i = rw (le-leb a.tx n i.0) (ap (λ rest. a ∷ rest) (all_counted n done i.1))

-- Commits fit at their numbers. -----------------------------------------------------------------------

-- a commit fits what those of lesser numbers leave
abbrev pub FitsBefore : List Applied → Applied → Type 0
FitsBefore done a = (n : ℕ) → n + 1 ≡ a.tx → Fits (view_after (up_to n done)) a

abbrev pub AllFitBefore : List Applied → List Applied → Type 0
AllFitBefore done [] = Unit {0}
AllFitBefore done (a ∷ rest) = FitsBefore done a × AllFitBefore done rest

-- no commit is beyond the last one of a path that it edits, or of its session
pub record IsKnown (done : List Applied) (a : Applied) : Type 0 where
  pub paths : (q : PathNames) → has_path q (edited_paths a) ≡ true → a.tx ≤ last_editor q done
  pub session : a.tx ≤ last_in a.session done

abbrev pub AllKnown : List Applied → List Applied → Type 0
AllKnown done [] = Unit {0}
AllKnown done (a ∷ rest) = IsKnown done a × AllKnown done rest

known_on : (done : List Applied) (b a : Applied) → IsNewest done b → IsKnown done a → IsKnown (b ∷ done) a
known_on done b a i k = record { paths = λ q e. by_edit q (has_path q (edited_paths b)) refl (k.paths q e); session = by_session (nat_eq b.session a.session) refl }
  where
    by_edit : (q : PathNames) (z : Bool) → has_path q (edited_paths b) ≡ z → a.tx ≤ last_editor q done → a.tx ≤ cond z b.tx (last_editor q done)
    by_edit q true e w = let v = i.paths q e in omega (arith, v, w)
    by_edit q false e w = w

    by_session : (z : Bool) → nat_eq b.session a.session ≡ z → a.tx ≤ cond z b.tx (last_in a.session done)
    by_session true e = let s : b.session ≡ a.session = grind (arith, nat_tests) in let v : last_in a.session done < b.tx = subst (λ x. last_in x done < b.tx) s i.session in let w = k.session in omega (arith, v, w)
    by_session false e = k.session

all_known_on : (done : List Applied) (b : Applied) (rest : List Applied) → IsNewest done b → AllKnown done rest → AllKnown (b ∷ done) rest
all_known_on done b [] i k = tt
all_known_on done b (a ∷ rest) i k = (known_on done b a i k.0, all_known_on done b rest i k.1)

known_new : (done : List Applied) (b : Applied) → IsKnown (b ∷ done) b
known_new done b = record { paths = λ q e. rw e (omega arith); session = (let s : nat_eq b.session b.session ≡ true = grind (arith, nat_tests) in rw s (omega arith)) }

pub all_known : (done : List Applied) → AllNewest done → AllKnown done done
all_known [] i = tt
all_known (b ∷ done) i = (known_new done b, all_known_on done b done i.0 (all_known done i.1))

-- a later commit of a lesser number leaves it so
fits_still : (done : List Applied) (b a : Applied) → IsNewest done b → IsKnown done a → FitsBefore done a → FitsBefore (b ∷ done) a
fits_still done b a i k f n e = by_number (nat_le b.tx n) refl
  where
    session : b.tx ≤ n → b.session ≢ a.session
    session v s = let w : last_in a.session done < b.tx = subst (λ x. last_in x done < b.tx) s i.session in let u = k.session in absurd (omega (arith, e, v, w, u))

    apart : b.tx ≤ n → (q : PathNames) → has_path q (edited_paths b) ≡ true → has_path q (edited_paths a) ≡ false
    apart v q x = by_test (has_path q (edited_paths a)) (λ z. z ≡ false) (λ y. let w = i.paths q x in let u = k.paths q y in absurd (omega (arith, e, v, w, u))) (λ _. refl)

    by_number : (z : Bool) → nat_le b.tx n ≡ z → Fits (view_after (cond z (b ∷ up_to n done) (up_to n done))) a
    by_number true v = fits_after_others (view_after (up_to n done)) b a (f n e) (session (leb-true b.tx n v)) (apart (leb-true b.tx n v))
    by_number false v = f n e

all_still : (done : List Applied) (b : Applied) (rest : List Applied) → IsNewest done b → AllKnown done rest → AllFitBefore done rest → AllFitBefore (b ∷ done) rest
all_still done b [] i k f = tt
all_still done b (a ∷ rest) i k f = (fits_still done b a i k.0 f.0, all_still done b rest i k.1 f.1)

-- One more commit: a close has to list all that its session owns at its number.
fits_new : (done : List Applied) (b : Applied) → AllNewest done → IsNewest done b → Fits (view_after done) b → ((n : ℕ) → n + 1 ≡ b.tx → ListsOwned (view_after (up_to n done)) b.session b.request b.gone) → FitsBefore (b ∷ done) b
fits_new done b m i f o n e =
    let w = i.session in
    let u : nat_le b.tx n ≡ false = test_not b.tx n (omega (arith, e)) in
    rw u (fits_by_its_edits (view_after done) (view_after (up_to n done)) b f
    (sym (closed_counts n b.session done m (omega (arith, e, w))))
    (λ q x. let v = i.paths q x in sym (node_counts n q done m (omega (arith, e, v))))
    (o n e))

pub one_fits_more : (done : List Applied) (b : Applied) → AllNewest done → IsNewest done b → Fits (view_after done) b → ((n : ℕ) → n + 1 ≡ b.tx → ListsOwned (view_after (up_to n done)) b.session b.request b.gone) → AllFitBefore done done → AllFitBefore (b ∷ done) (b ∷ done)
one_fits_more done b m i f o a = (fits_new done b m i f o, all_still done b done i (all_known done m) a)

fits_before_step : (done rest : List Applied) (t : ℕ) (b a : Applied) → FitsBefore done b → (applied_as t rest ≡ Some a → (a.tx ≡ t) × FitsBefore done a) → applied_as t (b ∷ rest) ≡ Some a → (a.tx ≡ t) × FitsBefore done a
fits_before_step done rest t b a f i e = by_push (nat_eq b.tx t) refl e
  where
    same : (x y : Applied) → Some x ≡ Some y → x ≡ y
    same x y e = cc

    by_push : (z : Bool) → nat_eq b.tx t ≡ z → cond z (Some b) (applied_as t rest) ≡ Some a → (a.tx ≡ t) × FitsBefore done a
    by_push true v e = let s : b.tx ≡ t = grind (arith, nat_tests) in subst (λ x. (x.tx ≡ t) × FitsBefore done x) (same b a e) (s, f)
    by_push false v e = i e

pub fits_before : (done rest : List Applied) (t : ℕ) (a : Applied) → AllFitBefore done rest → applied_as t rest ≡ Some a → (a.tx ≡ t) × FitsBefore done a
fits_before done [] t a f e = absurd (grind arith)
fits_before done (b ∷ rest) t a f e = fits_before_step done rest t b a f.0 (fits_before done rest t a f.1) e
