use Rattle.fk_tree.specs.Rows.{KeepSame}
use Rattle.fk_tree.proofs.writes.tidy.Given as goal

abbrev pub invariant-tidying : goal.invariant-tidying
invariant-tidying l = KeepSame l.initial.slots.entries l.slots.entries
