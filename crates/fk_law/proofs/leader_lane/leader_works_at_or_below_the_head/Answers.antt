use Rattle.fk_law.proofs.Leading.{leader_at_or_below_the_head}
use Rattle.fk_law.proofs.leader_lane.leader_works_at_or_below_the_head.Goals as goal

pub returns : goal.returns
returns c = leader_at_or_below_the_head
