-- The rows with a node of an owner, and their paths in path order.
use Rattle.std.specs.Prelude.{ℕ, suc, Bool, false, if◌then◌else◌, ◌&&◌, ◌||◌, List, [], ◌∷◌}
use Rattle.std.specs.Ordering.{is_gt}
use Rattle.fk_base.specs.Path.{PathNames, path_cmp, same_path}
use Rattle.fk_tree.specs.Sorted.{with_key}
use Rattle.fk_store.specs.declared.rows.Row.{Row}
use Rattle.fk_store.specs.Answers.{has_owner}
use Rattle.fk_store.specs.Rows.{row_record}

-- the place of the first path that isn't below this one, counted from i; else the end
abbrev pub path_from : ℕ → PathNames → List PathNames → ℕ
path_from i p [] = i
path_from i p (q ∷ qs) = if is_gt (path_cmp p q) then path_from (suc i) p qs else i

-- whether a row has a node of this owner, and so has the first row of its path
abbrev pub owns_row : ℕ → List Row → Row → Bool
owns_row s rows r = has_owner s r.kept && has_owner s (row_record r.path rows)

-- these paths, and those of the rows that have a node of this owner
abbrev pub gathered : ℕ → List Row → List Row → List PathNames → List PathNames
gathered s rows [] ps = ps
gathered s rows (r ∷ rs) ps = gathered s rows rs (if owns_row s rows r then with_key path_cmp r.path ps else ps)

-- whether one of these rows is of this path and has a node of this owner
abbrev pub is_gathered : ℕ → List Row → PathNames → List Row → Bool
is_gathered s rows p [] = false
is_gathered s rows p (r ∷ rs) = (owns_row s rows r && same_path p r.path) || is_gathered s rows p rs
