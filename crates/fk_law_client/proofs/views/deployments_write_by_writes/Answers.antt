use Rattle.fk_law_client.proofs.Verbs.{deployments_write}
use Rattle.fk_law_client.proofs.views.deployments_write_by_writes.Goals as goal

pub returns : goal.returns
returns c = deployments_write
