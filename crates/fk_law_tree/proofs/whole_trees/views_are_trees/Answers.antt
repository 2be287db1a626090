use Rattle.fk_law_tree.proofs.Growing.{trees_are_views, views_are_trees}
use Rattle.fk_law_tree.proofs.whole_trees.views_are_trees.Goals as goal

pub returns-clause-filled : goal.returns-clause-filled
returns-clause-filled c = trees_are_views

pub returns-clause-fitting : goal.returns-clause-fitting
returns-clause-fitting c = views_are_trees
