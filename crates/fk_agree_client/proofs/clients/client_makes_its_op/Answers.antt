use Rattle.fk_agree_client.proofs.Going.{client_fails, client_makes_its_op}
use Rattle.fk_agree_client.proofs.clients.client_makes_its_op.Goals as goal

pub returns-clause-op : goal.returns-clause-op
returns-clause-op c = client_makes_its_op

pub returns-clause-fails : goal.returns-clause-fails
returns-clause-fails c = client_fails
