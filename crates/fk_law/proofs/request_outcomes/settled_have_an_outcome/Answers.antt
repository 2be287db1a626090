use Rattle.fk_law.proofs.Outcomes.{settled_have_an_outcome}
use Rattle.fk_law.proofs.request_outcomes.settled_have_an_outcome.Goals as goal

pub returns : goal.returns
returns c = settled_have_an_outcome
