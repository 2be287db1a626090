use Rattle.fk_law_drain.proofs.Ending.{drains_end}
use Rattle.fk_law_drain.proofs.falling_ranks.drains_end.Goals as goal

pub returns : goal.returns
returns c = drains_end
