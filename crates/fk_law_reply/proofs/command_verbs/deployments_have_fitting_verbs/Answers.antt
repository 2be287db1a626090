use Rattle.fk_law_reply.proofs.Plans.{deployments_have_fitting_verbs}
use Rattle.fk_law_reply.proofs.command_verbs.deployments_have_fitting_verbs.Goals as goal

pub returns : goal.returns
returns c = deployments_have_fitting_verbs
