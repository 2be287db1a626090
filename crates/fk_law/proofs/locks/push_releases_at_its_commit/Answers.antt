use Rattle.fk_law.proofs.Locking.{push_releases_at_its_commit}
use Rattle.fk_law.proofs.locks.push_releases_at_its_commit.Goals as goal

pub returns : goal.returns
returns c = push_releases_at_its_commit
