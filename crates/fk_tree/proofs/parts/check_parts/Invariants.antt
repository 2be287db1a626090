use Rattle.std.proofs.Common.{◌≡◌, ◌+◌, ℕ, Bool, drop}
use Rattle.fk_tree.specs.Check.{check_parts}
use Rattle.fk_tree.specs.Edit.{after_edits}
use Rattle.fk_tree.specs.Rows.{shown}
use Rattle.fk_tree.proofs.parts.check_parts.Given as goal

abbrev pub invariant-checking : goal.invariant-checking
invariant-checking l =
    (l.place ≡ l.part-index + 1)
    × ((closed : ℕ → Bool) → check_parts (shown l.slots.entries closed) l.session 1 l.parts ≡ check_parts (after_edits (shown l.slots.entries closed) 0 0 l.edits) l.session l.place (drop l.part-index l.parts))
