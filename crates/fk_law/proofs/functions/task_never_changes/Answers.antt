use Rattle.fk_law.proofs.Starting.{task_never_changes}
use Rattle.fk_law.proofs.functions.task_never_changes.Goals as goal

pub returns : goal.returns
returns c = task_never_changes
