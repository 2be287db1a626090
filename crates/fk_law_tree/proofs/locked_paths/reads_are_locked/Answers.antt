use Rattle.fk_law_tree.proofs.Holding.{reads_are_locked}
use Rattle.fk_law_tree.proofs.locked_paths.reads_are_locked.Goals as goal

pub returns : goal.returns
returns c = reads_are_locked
