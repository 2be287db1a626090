use Rattle.fk_law.proofs.Starting.{place_for}
use Rattle.fk_law.proofs.functions.function_does_its_task.Goals as goal

pub returns : goal.returns
returns c = place_for
