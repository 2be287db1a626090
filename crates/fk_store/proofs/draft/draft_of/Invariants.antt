use Rattle.std.proofs.Common.{◌≡◌, ◌++◌, drop}
use Rattle.fk_base.specs.Path.{PathNames}
use Rattle.fk_store.specs.Rows.{row_record}
use Rattle.fk_store.specs.Writes.{records_written}
use Rattle.fk_store.proofs.draft.draft_of.Given as goal

abbrev pub invariant-writing : goal.invariant-writing
invariant-writing l = (p : PathNames) → records_written p l.writes (row_record p l.rows) ≡ records_written p (drop l.write-index l.writes) (row_record p (l.draft.items ++ l.rows))
