use Rattle.fk_law.proofs.Numbered.{numbered_fit, numbered_leave_the_same, numbered_tree_is_shown}
use Rattle.fk_law.proofs.numbered_commits.numbered_commits_fit.Goals as goal

pub returns-clause-same : goal.returns-clause-same
returns-clause-same c = numbered_leave_the_same

pub returns-clause-fit : goal.returns-clause-fit
returns-clause-fit c = numbered_fit

pub returns-clause-shown : goal.returns-clause-shown
returns-clause-shown c = numbered_tree_is_shown
