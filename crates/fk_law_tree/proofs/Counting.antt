-- What counts at a path.
use Rattle.std.proofs.Common.{◌≡◌, ℕ, true, false, cond, ◌||◌, [], ◌∷◌, refl, sym, ◌∙◌, ap, ◌≢◌, arith}
use Rattle.std.proofs.lemmas.Bool.{false≢true}
use Rattle.std.proofs.lemmas.Bool.Decides.{nat_tests}
use Rattle.fk_base.specs.Path.{PathNames, same_path}
use Rattle.fk_tree.specs.Sorted.{has_path}
use Rattle.fk_tree.specs.Edit.{edit, edited, effects, view_after}
use Rattle.fk_tree.specs.Touch.{edit_paths, edited_paths, edits_at}
use Rattle.fk_tree.specs.View.{start_view}
use Rattle.fk_tree.specs.Rows.{is_of}
use Rattle.fk_law_tree.specs.Editors.{editors, OnlyItsEditsCount, UneditedStays, OnlyEditorsCount, SameEditors, is_edited, OwnedWasEdited}
use Rattle.fk_law_tree.proofs.Lists.{ordered_has}
use Rattle.fk_base.proofs.Logic.{by_test}
use Rattle.fk_tree.proofs.Written.{untouched}

pub only_its_edits : OnlyItsEditsCount
only_its_edits tx moment p [] o = refl
only_its_edits tx moment p (e ∷ es) o =
    by_test (same_path p e.path) (λ b. edited tx moment p es (cond b (edit tx moment e.what o) o) ≡ edited tx moment p (cond b (e ∷ edits_at p es) (edits_at p es)) o)
    (λ s. only_its_edits tx moment p es (edit tx moment e.what o) ∙ sym (ap (λ b. edited tx moment p (edits_at p es) (cond b (edit tx moment e.what o) o)) s))
    (λ _. only_its_edits tx moment p es o)

pub unedited_stays : UneditedStays
unedited_stays v a p h = untouched a.tx a.moment p (effects a) (v.node p) (sym (ordered_has (edit_paths (effects a)) p) ∙ h)

pub only_editors : OnlyEditorsCount
only_editors [] p = refl
only_editors (a ∷ done) p =
    by_test (has_path p (edited_paths a)) (λ c. (view_after (a ∷ done)).node p ≡ (view_after (cond c (a ∷ editors p done) (editors p done))).node p)
    (λ _. ap (edited a.tx a.moment p (effects a)) (only_editors done p))
    (λ h. unedited_stays (view_after done) a p h ∙ only_editors done p)

pub same_editors : SameEditors
same_editors done other p e = only_editors done p ∙ ap (λ ds. (view_after ds).node p) e ∙ sym (only_editors other p)

start_unowned : (session : ℕ) (p : PathNames) → session ≢ 0 → is_of session (start_view.node p) ≡ true → ⊥
start_unowned session [] z e = grind (arith, nat_tests)
start_unowned session (n ∷ p) z e = false≢true e

pub owned_was_edited : OwnedWasEdited
owned_was_edited [] session p z e = absurd (start_unowned session p z e)
owned_was_edited (a ∷ done) session p z e =
    by_test (has_path p (edited_paths a)) (λ c. (c || is_edited p done) ≡ true) (λ _. refl)
    (λ h. owned_was_edited done session p z (ap (is_of session) (sym (unedited_stays (view_after done) a p h)) ∙ e))
