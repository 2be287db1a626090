use Rattle.fk_law.proofs.Losing.{dead_never_commits}
use Rattle.fk_law.proofs.lost_locks.dead_push_never_commits.Goals as goal

pub returns : goal.returns
returns c = dead_never_commits
