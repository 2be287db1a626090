use Rattle.fk_law.proofs.Leading.{swept_are_committed}
use Rattle.fk_law.proofs.leader_lane.swept_are_committed.Goals as goal

pub returns : goal.returns
returns c = swept_are_committed
