use Rattle.fk_law_tree.proofs.Growing.{owners_have_no_child}
use Rattle.fk_law_tree.proofs.whole_trees.owners_have_no_child.Goals as goal

pub returns : goal.returns
returns c = owners_have_no_child
