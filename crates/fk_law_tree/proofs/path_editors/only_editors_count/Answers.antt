use Rattle.fk_law_tree.proofs.Counting.{only_editors, same_editors}
use Rattle.fk_law_tree.proofs.path_editors.only_editors_count.Goals as goal

pub returns-clause-count : goal.returns-clause-count
returns-clause-count c = only_editors

pub returns-clause-same : goal.returns-clause-same
returns-clause-same c = same_editors
