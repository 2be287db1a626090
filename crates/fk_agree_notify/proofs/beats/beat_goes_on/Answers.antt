use Rattle.fk_agree_notify.proofs.Beating.{beat_goes_on, others_leave_beats}
use Rattle.fk_agree_notify.proofs.beats.beat_goes_on.Goals as goal

pub returns-clause-own : goal.returns-clause-own
returns-clause-own c = beat_goes_on

pub returns-clause-others : goal.returns-clause-others
returns-clause-others c = others_leave_beats
