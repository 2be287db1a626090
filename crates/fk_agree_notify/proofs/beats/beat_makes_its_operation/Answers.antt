use Rattle.fk_agree_notify.proofs.Beating.{beat_makes_its_operation, beat_fails}
use Rattle.fk_agree_notify.proofs.beats.beat_makes_its_operation.Goals as goal

pub returns-clause-op : goal.returns-clause-op
returns-clause-op c = beat_makes_its_operation

pub returns-clause-fault : goal.returns-clause-fault
returns-clause-fault c = beat_fails
