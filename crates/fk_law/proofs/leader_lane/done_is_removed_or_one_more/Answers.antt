use Rattle.fk_law.proofs.Leading.{done_is_removed_or_one_more}
use Rattle.fk_law.proofs.leader_lane.done_is_removed_or_one_more.Goals as goal

pub returns : goal.returns
returns c = done_is_removed_or_one_more
