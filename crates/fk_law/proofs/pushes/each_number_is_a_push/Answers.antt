use Rattle.fk_law.proofs.Pushing.{push_there}
use Rattle.fk_law.proofs.pushes.each_number_is_a_push.Goals as goal

pub returns : goal.returns
returns c = push_there
