use Rattle.std.proofs.Common.{◌≡◌, ◌++◌, drop}
use Rattle.fk_tree.specs.Touch.{edit_paths}
use Rattle.fk_lead.proofs.sweeping.edit_paths.Given as goal

abbrev pub invariant-listing : goal.invariant-listing
invariant-listing l = l.paths.items ++ edit_paths (drop l.edit-index l.edits) ≡ edit_paths l.edits
