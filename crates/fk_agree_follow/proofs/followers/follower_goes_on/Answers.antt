use Rattle.fk_agree_follow.proofs.Going.{follower_goes_on}
use Rattle.fk_agree_follow.proofs.Going.{follower_ends_by_fault}
use Rattle.fk_agree_follow.proofs.Staying.{others_leave_followers}
use Rattle.fk_agree_follow.proofs.followers.follower_goes_on.Goals as goal

pub returns-clause-own : goal.returns-clause-own
returns-clause-own c = follower_goes_on

pub returns-clause-fault : goal.returns-clause-fault
returns-clause-fault c = follower_ends_by_fault

pub returns-clause-others : goal.returns-clause-others
returns-clause-others c = others_leave_followers
