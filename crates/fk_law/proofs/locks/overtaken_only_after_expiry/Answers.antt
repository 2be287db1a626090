use Rattle.fk_law.proofs.Locking.{overtaken_only_after_expiry}
use Rattle.fk_law.proofs.locks.overtaken_only_after_expiry.Goals as goal

pub returns : goal.returns
returns c = overtaken_only_after_expiry
