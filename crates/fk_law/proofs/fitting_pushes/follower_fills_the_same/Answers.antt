use Rattle.fk_law.proofs.Carrying.{follower_fills_the_same}
use Rattle.fk_law.proofs.fitting_pushes.follower_fills_the_same.Goals as goal

pub returns : goal.returns
returns c = follower_fills_the_same
