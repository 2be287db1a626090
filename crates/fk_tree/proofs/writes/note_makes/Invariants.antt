use Rattle.std.proofs.Common.{◌≡◌, true, take}
use Rattle.fk_tree.specs.Rows.{are_noted, KeepsNotes}
use Rattle.fk_tree.proofs.writes.note_makes.Given as goal

abbrev pub invariant-noting : goal.invariant-noting
invariant-noting l = (are_noted (take l.change-index l.edits) l.owners ≡ true) × KeepsNotes l.initial.owners l.owners
