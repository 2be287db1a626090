use Rattle.fk_law_tree.proofs.Growing.{unlocked_is_missing}
use Rattle.fk_law_tree.proofs.whole_trees.unlocked_is_missing.Goals as goal

pub returns : goal.returns
returns c = unlocked_is_missing
