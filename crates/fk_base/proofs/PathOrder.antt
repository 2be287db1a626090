-- The order of paths, and a path's parent.
use Rattle.std.proofs.Common.{◌≡◌, ◌-◌, [], ◌∷◌, length, take, refl, ap, sub-one}
use Rattle.std.specs.Prelude.{◌↔◌, IsTrue}
use Rattle.std.specs.Cmp.{Equal-is, tied_itself}
use Rattle.std.specs.FinMap.{slice_cmp-IsAntisymmetric, nat_cmp-IsAntisymmetric}
use Rattle.std.specs.Ordering.{is_eq}
use Rattle.std.proofs.lemmas.Cmp.{nat_list_cmp_total, lists_total}
use Rattle.fk_base.specs.Path.{Name, PathNames, path_cmp, same_path, parent}

front_is : (n : Name) (p : PathNames) → take (length p) (n ∷ p) ≡ parent (n ∷ p)
front_is n [] = refl
front_is n (m ∷ q) = ap (λ r. n ∷ r) (front_is m q)

-- the parent has all names but the last
pub parent_is : (p : PathNames) → take (length p - 1) p ≡ parent p
parent_is [] = refl
parent_is (n ∷ p) = rw sub-one (front_is n p)

-- two paths are the same where the order doesn't tell them apart
pub same_path_is : (p q : PathNames) → IsTrue (same_path p q) ↔ (p ≡ q)
same_path_is p q = (λ e. slice_cmp-IsAntisymmetric (slice_cmp-IsAntisymmetric nat_cmp-IsAntisymmetric) p q ((Equal-is (path_cmp p q)).0 e), λ e. rw e (ap is_eq (tied_itself (lists_total nat_list_cmp_total) q)))
