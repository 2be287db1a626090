use Rattle.fk_law.proofs.Knowing.{commit_is_beyond_the_last}
use Rattle.fk_law.proofs.last_commits.commit_is_beyond_the_last.Goals as goal

pub returns : goal.returns
returns c = commit_is_beyond_the_last
