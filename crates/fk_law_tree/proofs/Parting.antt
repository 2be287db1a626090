-- Applied requests that edit no path in common.
use Rattle.std.proofs.Common.{◌≡◌, ◌≢◌, ℕ, Bool, true, false, cond, eqb, ◌||◌, List, refl, sym, ◌∙◌, ap, arith, ◌<◌}
use Rattle.std.proofs.lemmas.Bool.{false≢true}
use Rattle.std.proofs.lemmas.Bool.Decides.{nat_tests}
use Rattle.fk_base.specs.Path.{PathNames}
use Rattle.fk_tree.specs.Sorted.{has_path}
use Rattle.fk_tree.specs.View.{View}
use Rattle.fk_tree.specs.Edit.{edited, effects, closes, after}
use Rattle.fk_tree.specs.Touch.{edited_paths}
use Rattle.fk_tree.specs.declared.applied.Applied.{Applied}
use Rattle.fk_tree.specs.declared.request.Request.{Request}
use Rattle.fk_tree.specs.declared.request.Request.TheVariants as request
use Rattle.fk_tree.specs.Rows.{is_of}
use Rattle.fk_law_tree.specs.Disjoint.{AreApart, FitsAfterOthers, ApartCommute}
use Rattle.fk_law_tree.specs.Fitting.{GoneIs}
use Rattle.fk_law_tree.specs.Locking.{ListsOwned}
use Rattle.fk_law_tree.specs.Reading.{AgreeOn}
use Rattle.fk_law_tree.proofs.Counting.{unedited_stays}
use Rattle.fk_law_tree.proofs.Holding.{fits_by_its_edits}
use Rattle.fk_law_tree.proofs.Owning.{keeps_foreign_owners}
use Rattle.fk_base.proofs.Logic.{by_test}

-- the other edits none of its paths
apart_back : (a b : Applied) → AreApart a b → AreApart b a
apart_back a b d p h = by_test (has_path p (edited_paths a)) (λ c. c ≡ false) (λ e. absurd (false≢true (sym (d p e) ∙ h))) (λ _. refl)

agree_apart : (v : View) (a b : Applied) → AreApart a b → AgreeOn v (after v a) (edited_paths b)
agree_apart v a b d p h = sym (unedited_stays v a p (apart_back a b d p h))

-- a close closes its own session alone
closed_apart : (v : View) (a : Applied) (s : ℕ) → a.session ≢ s → v.closed s ≡ (after v a).closed s
closed_apart v a s n = step (closes a.request)
  where
    other : eqb a.session s ≡ false
    other = grind (arith, nat_tests)

    step : (b : Bool) → v.closed s ≡ cond b (eqb a.session s || v.closed s) (v.closed s)
    step true = rw other refl
    step false = refl

-- the session of a close owns no more than it did
lists_apart : (v w : View) (session : ℕ) (r : Request) (gone : List PathNames) → GoneIs v session r gone → ((p : PathNames) → is_of session (w.node p) ≡ true → is_of session (v.node p) ≡ true) → ListsOwned w session r gone
lists_apart v w session (request.Create p bytes seq eph) gone g f = tt
lists_apart v w session (request.Set p bytes version) gone g f = tt
lists_apart v w session (request.Delete p version) gone g f = tt
lists_apart v w session (request.Close evict) gone g f = λ p h. g.1 p ∙ f p h
lists_apart v w session (request.Multi ps) gone g f = tt

pub fits_after_others : FitsAfterOthers
fits_after_others v a b f n d =
    fits_by_its_edits v (after v a) b f (closed_apart v a b.session n) (agree_apart v a b d)
    (lists_apart v (after v a) b.session b.request b.gone f.gone (λ p h. keeps_foreign_owners v a p b.session (nonzero b.session f.session) (λ e. n (sym e)) h))
  where
    nonzero : (s : ℕ) → 0 < s → s ≢ 0
    nonzero s z e = absurd (omega arith)

-- COMMUTING
node_apart : (v : View) (a b : Applied) → AreApart a b → (p : PathNames) → (after (after v a) b).node p ≡ (after (after v b) a).node p
node_apart v a b d p =
    by_test (has_path p (edited_paths a)) (λ _. (after (after v a) b).node p ≡ (after (after v b) a).node p)
    (λ h. unedited_stays (after v a) b p (d p h) ∙ sym (ap (edited a.tx a.moment p (effects a)) (unedited_stays v b p (d p h))))
    (λ h. ap (edited b.tx b.moment p (effects b)) (unedited_stays v a p h) ∙ sym (unedited_stays (after v b) a p h))

closed_both : (x y : Bool) (m n c : Bool) → cond x (m || cond y (n || c) c) (cond y (n || c) c) ≡ cond y (n || cond x (m || c) c) (cond x (m || c) c)
closed_both true true true true c = refl
closed_both true true true false c = refl
closed_both true true false n c = refl
closed_both true false m n c = refl
closed_both false y m n c = refl

pub apart_commute : ApartCommute
apart_commute v a b d = λ i. record {
  node = λ p. (node_apart v a b d p) i;
  closed = λ s. (closed_both (closes b.request) (closes a.request) (eqb b.session s) (eqb a.session s) (v.closed s)) i;
}
