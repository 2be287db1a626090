-- Evictions without their cause, which are refused. They change the run of a session that did not answer its ping: that
-- it expired is told at place 2, its close is published at 9, sent at 25, and it was found late at 26.
use Rattle.std.specs.Prelude.{◌==◌}
use Rattle.std.proofs.Common.{refl}
use Rattle.std.proofs.lemmas.Bool.{false≢true}
use Rattle.fk_refused.proofs.Telling.{apart}
use Rattle.fk_refused.specs.Evictions.{EvictedByAnotherBeat, EvictedInTime, ExpiredByACreate, ExpiredByAnotherSession, ExpiredByItsOwnClose, ExpiredWithoutALine, FoundLateAfterwards, LateByAnotherFunction, OtherCloseWasSent}

pub evicted_in_time : EvictedInTime
evicted_in_time r = false≢true r.1.1.0.0.2

pub late_by_another_function : LateByAnotherFunction
late_by_another_function r = false≢true r.1.1.0.0.2

pub found_late_afterwards : FoundLateAfterwards
found_late_afterwards r = false≢true r.1.1.0.0.2

pub evicted_by_another_beat : EvictedByAnotherBeat
evicted_by_another_beat r = false≢true r.1.1.0.0.2

pub other_close_was_sent : OtherCloseWasSent
other_close_was_sent r = false≢true r.1.1.0.0.2

pub expired_without_a_line : ExpiredWithoutALine
expired_without_a_line r = r.1.1.0.0

pub expired_by_a_create : ExpiredByACreate
expired_by_a_create r = false≢true r.1.1.0.0.1

pub expired_by_its_own_close : ExpiredByItsOwnClose
expired_by_its_own_close r = false≢true r.1.1.0.0.1

pub expired_by_another_session : ExpiredByAnotherSession
expired_by_another_session r = apart (λ n. n == 2) r.1.1.0.0.0 refl refl
