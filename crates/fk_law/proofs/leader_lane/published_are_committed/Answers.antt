use Rattle.fk_law.proofs.Leading.{published_are_committed}
use Rattle.fk_law.proofs.leader_lane.published_are_committed.Goals as goal

pub returns : goal.returns
returns c = published_are_committed
