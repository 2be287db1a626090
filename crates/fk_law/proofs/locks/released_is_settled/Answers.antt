use Rattle.fk_law.proofs.Locking.{released_is_settled}
use Rattle.fk_law.proofs.locks.released_is_settled.Goals as goal

pub returns : goal.returns
returns c = released_is_settled
