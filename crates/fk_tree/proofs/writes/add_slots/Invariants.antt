use Rattle.std.proofs.Common.{◌≡◌, true, take}
use Rattle.fk_tree.specs.Rows.{have_rows, KeepSame}
use Rattle.fk_tree.proofs.writes.add_slots.Given as goal

abbrev pub invariant-adding : goal.invariant-adding
invariant-adding l = (have_rows (take l.change-index l.edits) l.slots.entries ≡ true) × KeepSame l.initial.slots.entries l.slots.entries
