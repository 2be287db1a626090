use Rattle.fk_law.proofs.Settled.{settled_between}
use Rattle.fk_law.proofs.settlings.settled_is_removed_or_one_more.Goals as goal

pub returns : goal.returns
returns c = settled_between
