use Rattle.fk_law.proofs.Passing.{loss_is_after_expiry}
use Rattle.fk_law.proofs.locks.loss_is_after_expiry.Goals as goal

pub returns : goal.returns
returns c = loss_is_after_expiry
