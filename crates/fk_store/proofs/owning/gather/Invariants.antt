use Rattle.std.proofs.Common.{◌≡◌, [], drop}
use Rattle.fk_store.specs.Owning.{gathered}
use Rattle.fk_store.proofs.owning.gather.Given as goal

abbrev pub invariant-gathering : goal.invariant-gathering
invariant-gathering l = gathered l.session l.rows l.rows [] ≡ gathered l.session l.rows (drop l.row-index l.rows) l.paths.items
