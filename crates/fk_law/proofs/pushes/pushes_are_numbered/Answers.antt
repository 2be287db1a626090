use Rattle.fk_law.proofs.Pushing.{push_bound}
use Rattle.fk_law.proofs.pushes.pushes_are_numbered.Goals as goal

pub returns : goal.returns
returns c = push_bound
