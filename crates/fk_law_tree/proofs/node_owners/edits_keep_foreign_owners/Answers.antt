use Rattle.fk_law_tree.proofs.Owning.{keeps_foreign_owners}
use Rattle.fk_law_tree.proofs.node_owners.edits_keep_foreign_owners.Goals as goal

pub returns : goal.returns
returns c = keeps_foreign_owners
