use Rattle.fk_law.proofs.Leading.{published_up_to_the_mark}
use Rattle.fk_law.proofs.leader_lane.published_up_to_the_mark.Goals as goal

pub returns : goal.returns
returns c = published_up_to_the_mark
