use Rattle.fk_law_tree.proofs.Owning.{owned_are_the_owners}
use Rattle.fk_law_tree.proofs.node_owners.owned_are_the_owners.Goals as goal

pub returns : goal.returns
returns c = owned_are_the_owners
