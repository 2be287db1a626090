-- Rising lists and their members.
use Rattle.std.specs.Prelude.{◌≡◌, true, List}
use Rattle.std.specs.declared.cmp.Ordering.{Ordering}
use Rattle.fk_base.specs.Path.{PathNames, path_cmp}
use Rattle.fk_tree.specs.Sorted.{has, has_path, rises, in_path_order}

-- two rising lists with the same members are the same
abbrev pub AreTheirMembers : {K : Type 0} → (K → K → Ordering) → Type 0
AreTheirMembers {K} R = (xs ys : List K) → rises R xs ≡ true → rises R ys ≡ true → ((x : K) → has R x xs ≡ has R x ys) → xs ≡ ys

-- paths in path order rise, and they are the paths that were given
abbrev pub InPathOrderRises : Type 0
InPathOrderRises = (ps : List PathNames) → (rises path_cmp (in_path_order ps) ≡ true) × ((p : PathNames) → has_path p (in_path_order ps) ≡ has_path p ps)
