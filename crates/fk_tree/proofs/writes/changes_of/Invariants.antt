use Rattle.std.proofs.Common.{◌≡◌, take}
use Rattle.fk_tree.specs.Rows.{changes_by}
use Rattle.fk_tree.proofs.writes.changes_of.Given as goal

abbrev pub invariant-editing : goal.invariant-editing
invariant-editing l = l.changes.items ≡ changes_by l.tx l.moment l.slots.entries l.edits (take l.change-index l.edits)
