use Rattle.fk_law.proofs.Knowing.{at_work_knows_the_last}
use Rattle.fk_law.proofs.last_commits.at_work_knows_the_last.Goals as goal

pub returns : goal.returns
returns c = at_work_knows_the_last
