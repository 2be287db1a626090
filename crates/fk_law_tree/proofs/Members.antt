-- The members of lists of paths.
use Rattle.std.proofs.Common.{◌≡◌, Bool, true, false, ◌||◌, List, [], ◌∷◌, ◌++◌, refl, sym, ◌∙◌, ap}
use Rattle.std.proofs.lemmas.Bool.{false≢true}
use Rattle.std.proofs.Math.Bool.{or_assoc}
use Rattle.fk_base.specs.Path.{PathNames, same_path}
use Rattle.fk_tree.specs.declared.edit.Edit.{Edit}
use Rattle.fk_tree.specs.Sorted.{has_path}
use Rattle.fk_tree.specs.Touch.{edit_paths}

pub or_left : (a b : Bool) → a ≡ true → (a || b) ≡ true
or_left true b e = refl
or_left false b e = absurd (false≢true e)

pub has_append : (p : PathNames) (ps qs : List PathNames) → has_path p (ps ++ qs) ≡ (has_path p ps || has_path p qs)
has_append p [] qs = refl
has_append p (q ∷ ps) qs = ap (λ b. same_path p q || b) (has_append p ps qs) ∙ sym (or_assoc (same_path p q) (has_path p ps) (has_path p qs))

pub edit_paths_append : (es fs : List Edit) → edit_paths (es ++ fs) ≡ edit_paths es ++ edit_paths fs
edit_paths_append [] fs = refl
edit_paths_append (e ∷ es) fs = ap (λ ps. e.path ∷ ps) (edit_paths_append es fs)
