use Rattle.fk_law_schedule.proofs.OneRun.{there_is_one_run}
use Rattle.fk_law_schedule.proofs.one_run.there_is_one_run.Goals as goal

pub returns : goal.returns
returns c = there_is_one_run
