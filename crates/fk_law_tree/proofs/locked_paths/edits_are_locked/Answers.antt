use Rattle.fk_law_tree.proofs.Holding.{edits_are_locked}
use Rattle.fk_law_tree.proofs.locked_paths.edits_are_locked.Goals as goal

pub returns : goal.returns
returns c = edits_are_locked
