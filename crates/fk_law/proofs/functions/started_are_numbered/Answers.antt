use Rattle.fk_law.proofs.Starting.{task_bound}
use Rattle.fk_law.proofs.functions.started_are_numbered.Goals as goal

pub returns : goal.returns
returns c = task_bound
