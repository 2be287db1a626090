use Rattle.std.proofs.Common.{◌≡◌, drop}
use Rattle.fk_store.specs.Conds.{first_missed, missed_from}
use Rattle.fk_index.specs.Tables.{table_of}
use Rattle.fk_index.proofs.index_table.IndexTable.missed.Given as goal

abbrev pub invariant-trying : goal.invariant-trying
invariant-trying l = first_missed (table_of l.self) l.conds ≡ missed_from l.place (table_of l.self) (drop l.place l.conds)
