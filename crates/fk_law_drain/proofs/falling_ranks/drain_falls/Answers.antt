use Rattle.fk_law_drain.proofs.Falling.{drain_falls}
use Rattle.fk_law_drain.proofs.falling_ranks.drain_falls.Goals as goal

pub returns : goal.returns
returns c = drain_falls
