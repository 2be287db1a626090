use Rattle.fk_law.proofs.Editing.{commits_fit, stored_tree_is_shown}
use Rattle.fk_law.proofs.fitting_pushes.commits_fit.Goals as goal

pub returns-clause-fit : goal.returns-clause-fit
returns-clause-fit c = commits_fit

pub returns-clause-shown : goal.returns-clause-shown
returns-clause-shown c = stored_tree_is_shown
