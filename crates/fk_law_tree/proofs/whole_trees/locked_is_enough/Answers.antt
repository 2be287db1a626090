use Rattle.fk_law_tree.proofs.Growing.{locked_is_enough}
use Rattle.fk_law_tree.proofs.whole_trees.locked_is_enough.Goals as goal

pub returns : goal.returns
returns c = locked_is_enough
