use Rattle.fk_law_watch.proofs.Sweeps.{swept_of_is_the_greatest}
use Rattle.fk_law_watch.proofs.last_sweeps.swept_of_is_the_greatest.Goals as goal

pub returns : goal.returns
returns c = swept_of_is_the_greatest
