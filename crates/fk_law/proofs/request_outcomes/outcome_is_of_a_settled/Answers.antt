use Rattle.fk_law.proofs.Outcomes.{outcome_is_of_a_settled}
use Rattle.fk_law.proofs.request_outcomes.outcome_is_of_a_settled.Goals as goal

pub returns : goal.returns
returns c = outcome_is_of_a_settled
