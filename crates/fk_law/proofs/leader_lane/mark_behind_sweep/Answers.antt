use Rattle.fk_law.proofs.Leading.{mark_behind_sweep}
use Rattle.fk_law.proofs.leader_lane.mark_behind_sweep.Goals as goal

pub returns : goal.returns
returns c = mark_behind_sweep
