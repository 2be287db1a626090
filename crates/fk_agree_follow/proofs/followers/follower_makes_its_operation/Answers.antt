use Rattle.fk_agree_follow.proofs.Operating.{follower_makes_its_operation}
use Rattle.fk_agree_follow.proofs.Operating.{follower_fails}
use Rattle.fk_agree_follow.proofs.followers.follower_makes_its_operation.Goals as goal

pub returns-clause-op : goal.returns-clause-op
returns-clause-op c = follower_makes_its_operation

pub returns-clause-fault : goal.returns-clause-fault
returns-clause-fault c = follower_fails
