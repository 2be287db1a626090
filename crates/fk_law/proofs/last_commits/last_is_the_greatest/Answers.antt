use Rattle.fk_law.proofs.Knowing.{last_is_the_greatest}
use Rattle.fk_law.proofs.last_commits.last_is_the_greatest.Goals as goal

pub returns : goal.returns
returns c = last_is_the_greatest
