use Rattle.fk_law.proofs.Leading.{leader_stands_where_it_may}
use Rattle.fk_law.proofs.leader_lane.leader_stands_where_it_may.Goals as goal

pub returns : goal.returns
returns c = leader_stands_where_it_may
