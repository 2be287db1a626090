use Rattle.fk_law.proofs.Leading.{published_are_swept}
use Rattle.fk_law.proofs.leader_lane.published_are_swept.Goals as goal

pub returns : goal.returns
returns c = published_are_swept
