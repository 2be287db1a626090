use Rattle.std.proofs.Common.{◌≡◌, ◌++◌, true, vec_len}
use Rattle.fk_base.specs.Path.{PathNames}
use Rattle.fk_store.specs.Rows.{row_record, rows_have_rows}
use Rattle.fk_store.proofs.rows.put_rows.Given as goal

abbrev pub invariant-putting : goal.invariant-putting
invariant-putting l =
    (rows_have_rows l.draft.items l.rows.items ≡ true)
    × ((p : PathNames) → row_record p (l.draft.items ++ l.rows.items) ≡ row_record p (l.initial.draft.items ++ l.initial.rows.items))

abbrev pub decreases-putting : goal.decreases-putting
decreases-putting l = vec_len l.draft
