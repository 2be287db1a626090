use Rattle.fk_law_tree.proofs.Growing.{applied_by_path, applied_is_after}
use Rattle.fk_law_tree.proofs.whole_trees.apply_by_path.Goals as goal

pub returns-clause-path : goal.returns-clause-path
returns-clause-path c = applied_by_path

pub returns-clause-whole : goal.returns-clause-whole
returns-clause-whole c = applied_is_after
