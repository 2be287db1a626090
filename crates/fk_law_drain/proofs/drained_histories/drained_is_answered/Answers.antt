use Rattle.fk_law_drain.proofs.Drained.{drained_deployment_is_answered, drained_is_answered, scheduled_is_answered}
use Rattle.fk_law_drain.proofs.drained_histories.drained_is_answered.Goals as goal

pub returns-clause-plan : goal.returns-clause-plan
returns-clause-plan c = drained_is_answered

pub returns-clause-deployment : goal.returns-clause-deployment
returns-clause-deployment c = drained_deployment_is_answered

pub returns-clause-schedule : goal.returns-clause-schedule
returns-clause-schedule c = scheduled_is_answered
