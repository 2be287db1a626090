use Rattle.std.proofs.Common.{◌≡◌, drop}
use Rattle.fk_store.specs.Rows.{row_record}
use Rattle.fk_store.proofs.rows.record_in.Given as goal

abbrev pub invariant-seeking : goal.invariant-seeking
invariant-seeking l = row_record l.path l.rows ≡ row_record l.path (drop l.row-index l.rows)
