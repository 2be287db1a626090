use Rattle.std.proofs.Common.{◌≡◌, ◌++◌, ℕ, Bool, drop}
use Rattle.fk_tree.specs.Edit.{after_edits}
use Rattle.fk_tree.specs.Fill.{fill_parts}
use Rattle.fk_tree.specs.Rows.{shown}
use Rattle.fk_tree.proofs.parts.fill_parts.Given as goal

abbrev pub invariant-filling : goal.invariant-filling
invariant-filling l = (closed : ℕ → Bool) → l.made ++ fill_parts (after_edits (shown l.slots.entries closed) 0 0 l.edits) l.session (drop l.part-index l.parts) ≡ fill_parts (shown l.slots.entries closed) l.session l.parts
