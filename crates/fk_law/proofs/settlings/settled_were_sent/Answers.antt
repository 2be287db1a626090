use Rattle.fk_law.proofs.Settled.{settled_were_sent}
use Rattle.fk_law.proofs.settlings.settled_were_sent.Goals as goal

pub returns : goal.returns
returns c = settled_were_sent
