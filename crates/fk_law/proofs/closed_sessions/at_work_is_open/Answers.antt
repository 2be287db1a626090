use Rattle.fk_law.proofs.Closing.{at_work_is_open}
use Rattle.fk_law.proofs.closed_sessions.at_work_is_open.Goals as goal

pub returns : goal.returns
returns c = at_work_is_open
