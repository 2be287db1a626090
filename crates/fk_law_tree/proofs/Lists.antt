-- Rising lists and their members.
use Rattle.std.proofs.Common.{◌≡◌, true, ◌||◌, List, [], ◌∷◌, refl, ◌∙◌, ap}
use Rattle.fk_base.specs.Path.{PathNames, path_cmp, same_path}
use Rattle.fk_tree.specs.Sorted.{has_path, rises, in_path_order}
use Rattle.fk_tree.proofs.Order.{path_total, path_exact}
use Rattle.fk_tree.proofs.Rising.{has_with, rises_with}
use Rattle.fk_law_tree.specs.Lists.{InPathOrderRises}

pub ordered_rises : (ps : List PathNames) → rises path_cmp (in_path_order ps) ≡ true
ordered_rises [] = refl
ordered_rises (p ∷ ps) = rises_with path_total path_exact p (in_path_order ps) (ordered_rises ps)

pub ordered_has : (ps : List PathNames) (p : PathNames) → has_path p (in_path_order ps) ≡ has_path p ps
ordered_has [] p = refl
ordered_has (q ∷ ps) p = has_with path_total path_exact p q (in_path_order ps) ∙ ap (λ b. same_path p q || b) (ordered_has ps p)

pub in_path_order_rises : InPathOrderRises
in_path_order_rises = λ ps. (ordered_rises ps, ordered_has ps)
