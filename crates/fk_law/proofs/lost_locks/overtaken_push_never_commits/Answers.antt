use Rattle.fk_law.proofs.Losing.{overtaken_never_commits}
use Rattle.fk_law.proofs.lost_locks.overtaken_push_never_commits.Goals as goal

pub returns : goal.returns
returns c = overtaken_never_commits
