use Rattle.fk_law_schedule.proofs.Computed.{schedule_is_computed}
use Rattle.fk_law_schedule.proofs.computed_schedules.schedule_is_computed.Goals as goal

pub returns : goal.returns
returns c = schedule_is_computed
