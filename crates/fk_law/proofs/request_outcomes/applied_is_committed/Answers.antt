use Rattle.fk_law.proofs.Outcomes.{applied_is_committed}
use Rattle.fk_law.proofs.request_outcomes.applied_is_committed.Goals as goal

pub returns : goal.returns
returns c = applied_is_committed
