use Rattle.fk_agree_follow.proofs.Starting.{follower_starts}
use Rattle.fk_agree_follow.proofs.followers.follower_starts.Goals as goal

pub returns : goal.returns
returns c = follower_starts
