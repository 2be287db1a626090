use Rattle.fk_law.proofs.Carrying.{committed_as_pushed}
use Rattle.fk_law.proofs.fitting_pushes.committed_as_pushed.Goals as goal

pub returns : goal.returns
returns c = committed_as_pushed
