use Rattle.fk_law.proofs.Settled.{answered_at}
use Rattle.fk_law.proofs.settlings.answered_is_settled.Goals as goal

pub returns : goal.returns
returns c = answered_at
