use Rattle.fk_law.proofs.Committing.{at_work_law}
use Rattle.fk_law.proofs.settlings.at_work_is_unpushed.Goals as goal

pub returns : goal.returns
returns c = at_work_law
