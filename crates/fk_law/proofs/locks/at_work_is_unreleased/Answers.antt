use Rattle.fk_law.proofs.Locking.{at_work_is_unreleased}
use Rattle.fk_law.proofs.locks.at_work_is_unreleased.Goals as goal

pub returns : goal.returns
returns c = at_work_is_unreleased
