use Rattle.fk_law.proofs.Due.{client_operations_say}
use Rattle.fk_law.proofs.operations.client_operations_say.Goals as goal

pub returns : goal.returns
returns c = client_operations_say
