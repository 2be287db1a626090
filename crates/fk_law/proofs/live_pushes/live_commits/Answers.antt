use Rattle.fk_law.proofs.Living.{live_commits}
use Rattle.fk_law.proofs.live_pushes.live_commits.Goals as goal

pub returns : goal.returns
returns c = live_commits
