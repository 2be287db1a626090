use Rattle.fk_law_tree.proofs.Growing.{keeps_well_formed}
use Rattle.fk_law_tree.proofs.whole_trees.apply_keeps_well_formed.Goals as goal

pub returns : goal.returns
returns c = keeps_well_formed
