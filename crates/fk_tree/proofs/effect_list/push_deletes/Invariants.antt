use Rattle.std.proofs.Common.{◌≡◌, ◌++◌, drop}
use Rattle.fk_tree.specs.Edit.{deletes_edits}
use Rattle.fk_tree.proofs.effect_list.push_deletes.Given as goal

abbrev pub invariant-deleting : goal.invariant-deleting
invariant-deleting l = l.edits ++ deletes_edits (drop l.path-index l.paths) ≡ l.initial.edits ++ deletes_edits l.paths
