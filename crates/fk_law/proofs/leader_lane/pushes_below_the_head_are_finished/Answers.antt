use Rattle.fk_law.proofs.Leading.{pushes_below_the_head}
use Rattle.fk_law.proofs.leader_lane.pushes_below_the_head_are_finished.Goals as goal

pub returns : goal.returns
returns c = pushes_below_the_head
