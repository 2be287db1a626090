-- Rows of paths and their records. The first row of a path counts.
use Rattle.std.specs.Prelude.{◌≡◌, ℕ, suc, Bool, true, false, if◌then◌else◌, ◌||◌, List, [], ◌∷◌, Option, Some, None}
use Rattle.fk_base.specs.Path.{PathNames, same_path}
use Rattle.fk_store.specs.declared.node_record.NodeRecord.{NodeRecord}
use Rattle.fk_store.specs.declared.rows.Row.{Row}

-- the record of a path: the one in its first row
abbrev pub row_record : PathNames → List Row → Option NodeRecord
row_record p [] = None
row_record p (r ∷ rs) = if same_path p r.path then r.kept else row_record p rs

-- whether a path has a row
abbrev pub has_row : PathNames → List Row → Bool
has_row p [] = false
has_row p (r ∷ rs) = same_path p r.path || has_row p rs

-- where the first row of a path stands, counted from i
abbrev pub row_from : ℕ → PathNames → List Row → Option ℕ
row_from i p [] = None
row_from i p (r ∷ rs) = if same_path p r.path then Some i else row_from (suc i) p rs

-- two lists of rows keep the same record of each path
abbrev pub KeepSame : List Row → List Row → Type 0
KeepSame rows others = (p : PathNames) → row_record p others ≡ row_record p rows

-- no path loses its row
abbrev pub KeepsRows : List Row → List Row → Type 0
KeepsRows rows others = (p : PathNames) → has_row p rows ≡ true → has_row p others ≡ true

-- the path of each of these rows has one among the others
abbrev pub rows_have_rows : List Row → List Row → Bool
rows_have_rows [] rows = true
rows_have_rows (r ∷ rs) rows = if has_row r.path rows then rows_have_rows rs rows else false
