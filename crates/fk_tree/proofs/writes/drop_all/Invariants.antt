use Rattle.std.proofs.Common.{ℕ, take}
use Rattle.fk_tree.specs.Rows.{AreEdited, AreRising, StaysNoted}
use Rattle.fk_tree.proofs.writes.drop_all.Given as goal

abbrev pub invariant-dropping : goal.invariant-dropping
invariant-dropping l =
    ((moment : ℕ) → AreEdited l.tx moment (take l.change-index l.edits) l.initial.slots.entries l.slots.entries)
    × StaysNoted l.initial.slots.entries l.initial.owners l.slots.entries l.owners
    × AreRising l.slots.entries
