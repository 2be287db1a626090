use Rattle.fk_law_tree.proofs.Counting.{unedited_stays}
use Rattle.fk_law_tree.proofs.path_editors.unedited_stays.Goals as goal

pub returns : goal.returns
returns c = unedited_stays
