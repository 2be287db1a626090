use Rattle.fk_agree_follow.proofs.Fitting.{follower_is_fit}
use Rattle.fk_agree_follow.proofs.followers.follower_is_fit.Goals as goal

pub returns : goal.returns
returns c = follower_is_fit
