use Rattle.std.proofs.Common.{◌≡◌, true, take}
use Rattle.fk_store.specs.Rows.{rows_have_rows, KeepSame}
use Rattle.fk_store.proofs.rows.add_rows.Given as goal

abbrev pub invariant-adding : goal.invariant-adding
invariant-adding l = (rows_have_rows (take l.row-index l.draft) l.rows.items ≡ true) × KeepSame l.initial.rows.items l.rows.items
