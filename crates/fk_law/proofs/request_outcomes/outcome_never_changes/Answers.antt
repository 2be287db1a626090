use Rattle.fk_law.proofs.Outcomes.{outcome_never_changes}
use Rattle.fk_law.proofs.request_outcomes.outcome_never_changes.Goals as goal

pub returns : goal.returns
returns c = outcome_never_changes
