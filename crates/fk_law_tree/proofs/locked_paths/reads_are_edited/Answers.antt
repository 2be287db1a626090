use Rattle.fk_law_tree.proofs.Holding.{reads_are_edited}
use Rattle.fk_law_tree.proofs.locked_paths.reads_are_edited.Goals as goal

pub returns : goal.returns
returns c = reads_are_edited
