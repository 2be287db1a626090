use Rattle.fk_law.proofs.Rising.{one_of_two_commits}
use Rattle.fk_law.proofs.commit_order.one_of_two_commits.Goals as goal

pub returns : goal.returns
returns c = one_of_two_commits
