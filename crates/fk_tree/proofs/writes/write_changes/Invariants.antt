use Rattle.std.proofs.Common.{◌≡◌, true, vec_len}
use Rattle.fk_base.specs.Path.{PathNames}
use Rattle.fk_tree.specs.Rows.{changes_have_rows, row_node, written}
use Rattle.fk_tree.proofs.writes.write_changes.Given as goal

abbrev pub invariant-writing : goal.invariant-writing
invariant-writing l =
    (changes_have_rows l.changes.items l.slots.entries ≡ true)
    × ((p : PathNames) → written p l.changes.items (row_node p l.slots.entries) ≡ written p l.initial.changes.items (row_node p l.initial.slots.entries))

abbrev pub decreases-writing : goal.decreases-writing
decreases-writing l = vec_len l.changes
