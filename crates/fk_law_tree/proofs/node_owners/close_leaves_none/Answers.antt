use Rattle.fk_law_tree.proofs.Owning.{close_leaves_none}
use Rattle.fk_law_tree.proofs.node_owners.close_leaves_none.Goals as goal

pub returns : goal.returns
returns c = close_leaves_none
