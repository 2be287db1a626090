use Rattle.fk_law.proofs.Losing.{missed_settled}
use Rattle.fk_law.proofs.lost_locks.settled_miss_is_over.Goals as goal

pub returns : goal.returns
returns c = missed_settled
