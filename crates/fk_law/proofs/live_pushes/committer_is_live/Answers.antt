use Rattle.fk_law.proofs.Living.{committer_is_live}
use Rattle.fk_law.proofs.live_pushes.committer_is_live.Goals as goal

pub returns : goal.returns
returns c = committer_is_live
