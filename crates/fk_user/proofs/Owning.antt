-- The edits of one path's node.
use Rattle.std.proofs.Common.{◌≡◌, ℕ, suc, ◌+◌, ◌<◌, ◌≤◌, Bool, true, false, cond, List, [], ◌∷◌, ◌++◌, Option, length, drop, get_or, refl, sym, ◌∙◌, ap, arith, drop-cons}
use Rattle.std.proofs.Math.ListN.{drop_of_length-le}
use Rattle.std.proofs.lemmas.List.{append-nil}
use Rattle.fk_base.specs.Path.{PathNames, same_path}
use Rattle.fk_tree.specs.Edit.{edit, edited}
use Rattle.fk_tree.specs.declared.edit.Edit.{Edit}
use Rattle.fk_tree.specs.declared.node.Node.{Node}
use Rattle.fk_tree.specs.Touch.{edits_at}
use Rattle.fk_user.specs.Own.{are_own}
use Rattle.fk_base.proofs.Logic.{by_test}

-- all edits were gone through
pub all_chosen : (p : PathNames) (es own : List Edit) (i : ℕ) → length es ≤ i → own ++ edits_at p (drop i es) ≡ edits_at p es → own ≡ edits_at p es
all_chosen p es own i l h = sym (append-nil own) ∙ ap (λ xs. own ++ edits_at p xs) (sym (drop_of_length-le es l)) ∙ h

-- the edits from one on: it, if it is the path's own, and those behind it
pub own_rest : (p : PathNames) (es : List Edit) (i : ℕ) (e : Edit) → i < length es → e ≡ get_or es i e → edits_at p (drop i es) ≡ edits_at p (e ∷ []) ++ edits_at p (drop (i + 1) es)
own_rest p es i e l s = step (i + 1) (omega arith)
  where
    both : (b : Bool) (xs : List Edit) → cond b (e ∷ xs) xs ≡ cond b (e ∷ []) [] ++ xs
    both true xs = refl
    both false xs = refl

    step : (j : ℕ) → j ≡ suc i → edits_at p (drop i es) ≡ edits_at p (e ∷ []) ++ edits_at p (drop j es)
    step j t = rw (t, drop-cons es i e l, ← s) (both (same_path p e.path) (edits_at p (drop (suc i) es)))

pub own_are_own : (p : PathNames) (es : List Edit) → are_own p (edits_at p es) ≡ true
own_are_own p [] = refl
own_are_own p (e ∷ es) = by_test (same_path p e.path) (λ b. are_own p (cond b (e ∷ edits_at p es) (edits_at p es)) ≡ true) (λ t. rw (t, own_are_own p es) refl) (λ _. own_are_own p es)

-- they leave what all of them leave there
pub own_edited : (p : PathNames) (es : List Edit) (tx moment : ℕ) (o : Option Node) → edited tx moment p (edits_at p es) o ≡ edited tx moment p es o
own_edited p [] tx moment o = refl
own_edited p (e ∷ es) tx moment o =
    by_test (same_path p e.path) (λ b. edited tx moment p (cond b (e ∷ edits_at p es) (edits_at p es)) o ≡ edited tx moment p es (cond b (edit tx moment e.what o) o))
    (λ t. ap (λ b. edited tx moment p (edits_at p es) (cond b (edit tx moment e.what o) o)) t ∙ own_edited p es tx moment (edit tx moment e.what o))
    (λ _. own_edited p es tx moment o)
