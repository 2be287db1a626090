use Rattle.fk_law.proofs.Settled.{reached}
use Rattle.fk_law.proofs.settlings.message_is_reached.Goals as goal

pub returns : goal.returns
returns c = reached
