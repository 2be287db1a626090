use Rattle.fk_law_drain.proofs.Delivering.{done_push_is_replied}
use Rattle.fk_law_drain.proofs.delivered_outcomes.done_push_is_replied.Goals as goal

pub returns : goal.returns
returns c = done_push_is_replied
