use Rattle.fk_law.proofs.Printing.{txs_are_the_commits}
use Rattle.fk_law.proofs.Publishing.{published_tree_is_shown}
use Rattle.fk_law.proofs.publications.txs_are_the_commits.Goals as goal

pub returns-clause-lines : goal.returns-clause-lines
returns-clause-lines c = txs_are_the_commits

pub returns-clause-tree : goal.returns-clause-tree
returns-clause-tree c = published_tree_is_shown
