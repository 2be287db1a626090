use Rattle.fk_law_drain.proofs.Holding.{no_look_is_held}
use Rattle.fk_law_drain.proofs.published_looks.no_look_is_held.Goals as goal

pub returns : goal.returns
returns c = no_look_is_held
