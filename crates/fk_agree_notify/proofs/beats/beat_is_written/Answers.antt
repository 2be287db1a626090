use Rattle.fk_agree_notify.proofs.BeatServices.{beat_is_written, beat_fault_is_written}
use Rattle.fk_agree_notify.proofs.beats.beat_is_written.Goals as goal

pub returns-clause-op : goal.returns-clause-op
returns-clause-op c = beat_is_written

pub returns-clause-fault : goal.returns-clause-fault
returns-clause-fault c = beat_fault_is_written
