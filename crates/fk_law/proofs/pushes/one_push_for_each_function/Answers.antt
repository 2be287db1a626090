use Rattle.fk_law.proofs.Committing.{one_push_law}
use Rattle.fk_law.proofs.pushes.one_push_for_each_function.Goals as goal

pub returns : goal.returns
returns c = one_push_law
