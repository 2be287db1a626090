use Rattle.fk_law.proofs.Knowing.{last_is_committed}
use Rattle.fk_law.proofs.last_commits.last_is_committed.Goals as goal

pub returns : goal.returns
returns c = last_is_committed
