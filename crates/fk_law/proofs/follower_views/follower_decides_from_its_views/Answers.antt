use Rattle.fk_law.proofs.Deciding.{follower_decides_from_its_views}
use Rattle.fk_law.proofs.follower_views.follower_decides_from_its_views.Goals as goal

pub returns : goal.returns
returns c = follower_decides_from_its_views
