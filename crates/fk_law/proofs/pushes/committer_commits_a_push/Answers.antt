use Rattle.fk_law.proofs.Settled.{commit_of}
use Rattle.fk_law.proofs.pushes.committer_commits_a_push.Goals as goal

pub returns : goal.returns
returns c = commit_of
