use Rattle.std.proofs.Common.{◌≡◌, drop}
use Rattle.fk_store.specs.Rows.{row_from}
use Rattle.fk_store.proofs.rows.place_of.Given as goal

abbrev pub invariant-seeking : goal.invariant-seeking
invariant-seeking l = row_from 0 l.path l.rows ≡ row_from l.place l.path (drop l.place l.rows)
