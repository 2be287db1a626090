use Rattle.fk_agree_follow.proofs.Writing.{follower_is_written}
use Rattle.fk_agree_follow.proofs.Writing.{follower_fault_is_written}
use Rattle.fk_agree_follow.proofs.followers.follower_is_written.Goals as goal

pub returns-clause-op : goal.returns-clause-op
returns-clause-op c = follower_is_written

pub returns-clause-fault : goal.returns-clause-fault
returns-clause-fault c = follower_fault_is_written
