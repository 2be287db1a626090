use Rattle.fk_law.proofs.Leading.{done_were_pushed}
use Rattle.fk_law.proofs.leader_lane.done_were_pushed.Goals as goal

pub returns : goal.returns
returns c = done_were_pushed
