-- Lists without repeats in an order of their items: names by their bytes, paths by their names.
use Rattle.std.specs.Prelude.{ℕ, suc, Bool, true, false, if◌then◌else◌, ◌&&◌, ◌||◌, List, [], ◌∷◌, Option, Some, None}
use Rattle.std.specs.declared.cmp.Ordering.{Ordering}
use Rattle.std.specs.Ordering.{is_eq, is_lt, is_gt, match_ordering}
use Rattle.fk_base.specs.Path.{Name, PathNames, name_cmp, path_cmp, same_name}

-- whether the item is in the list
abbrev pub has : {K : Type 0} → (K → K → Ordering) → K → List K → Bool
has R x [] = false
has R x (y ∷ ys) = is_eq (R x y) || has R x ys

-- the list with the item at its place; one that is there already isn't added
abbrev pub with_key : {K : Type 0} → (K → K → Ordering) → K → List K → List K
with_key R x [] = x ∷ []
with_key R x (y ∷ ys) = match_ordering (R x y) (x ∷ y ∷ ys) (y ∷ ys) (y ∷ with_key R x ys)

-- the list without the item
abbrev pub without_key : {K : Type 0} → (K → K → Ordering) → K → List K → List K
without_key R x [] = []
without_key R x (y ∷ ys) = if is_eq (R x y) then without_key R x ys else y ∷ without_key R x ys

-- the item is below each of the list
abbrev pub is_below : {K : Type 0} → (K → K → Ordering) → K → List K → Bool
is_below R x [] = true
is_below R x (y ∷ ys) = is_lt (R x y) && is_below R x ys

-- each item is below those after it
abbrev pub rises : {K : Type 0} → (K → K → Ordering) → List K → Bool
rises R [] = true
rises R (x ∷ xs) = is_below R x xs && rises R xs

-- the items in their order, each once
abbrev pub sorted : {K : Type 0} → (K → K → Ordering) → List K → List K
sorted R [] = []
sorted R (x ∷ xs) = with_key R x (sorted R xs)

abbrev pub has_name : Name → List Name → Bool
has_name = has name_cmp

abbrev pub add_name : Name → List Name → List Name
add_name = with_key name_cmp

abbrev pub drop_name : Name → List Name → List Name
drop_name = without_key name_cmp

abbrev pub has_path : PathNames → List PathNames → Bool
has_path = has path_cmp

-- the paths in path order, each once
abbrev pub in_path_order : List PathNames → List PathNames
in_path_order = sorted path_cmp

-- where the name stands first in the list, counted from i
abbrev pub found_from : ℕ → Name → List Name → Option ℕ
found_from i n [] = None
found_from i n (m ∷ ms) = if same_name n m then Some i else found_from (suc i) n ms

-- the place of the first name that isn't below this one, counted from i; else the end
abbrev pub place_from : ℕ → Name → List Name → ℕ
place_from i n [] = i
place_from i n (m ∷ ms) = if is_gt (name_cmp n m) then place_from (suc i) n ms else i
