use Rattle.fk_law.proofs.Leading.{swept_up_to_the_sweep}
use Rattle.fk_law.proofs.leader_lane.swept_up_to_the_sweep.Goals as goal

pub returns : goal.returns
returns c = swept_up_to_the_sweep
