use Rattle.fk_law_tree.proofs.Counting.{owned_was_edited}
use Rattle.fk_law_tree.proofs.path_editors.owned_was_edited.Goals as goal

pub returns : goal.returns
returns c = owned_was_edited
