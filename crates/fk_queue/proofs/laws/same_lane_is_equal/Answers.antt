use Rattle.fk_queue.proofs.Standing.{same_lane_is, same_lane_self}
use Rattle.fk_queue.proofs.laws.same_lane_is_equal.Goals as goal

pub returns : goal.returns
returns c = (same_lane_is, same_lane_self)
