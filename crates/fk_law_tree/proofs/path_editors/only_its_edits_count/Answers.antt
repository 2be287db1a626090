use Rattle.fk_law_tree.proofs.Counting.{only_its_edits}
use Rattle.fk_law_tree.proofs.path_editors.only_its_edits_count.Goals as goal

pub returns : goal.returns
returns c = only_its_edits
