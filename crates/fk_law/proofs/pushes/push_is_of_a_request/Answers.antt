use Rattle.fk_law.proofs.Pushing.{push_request}
use Rattle.fk_law.proofs.pushes.push_is_of_a_request.Goals as goal

pub returns : goal.returns
returns c = push_request
