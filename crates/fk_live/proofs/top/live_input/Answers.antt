use Rattle.std.proofs.Common.{ap, arith, length, Err}
use Rattle.fk_run.proofs.Refusing.{stopped_is_not_refused}
use Rattle.fk_live.proofs.Ending.{cut_input, cut_too_long}
use Rattle.fk_live.proofs.top.live_input.Goals as goal

pub returns-in-Ok-clause-front : goal.returns-in-Ok-clause-front
returns-in-Ok-clause-front g c = λ e.
    cut_input c.in-Ok.input.items c.as_slice.result.now _ _ _ _ c.in-Ok.ensures.read c.in-Ok.ensures.end
    (omega (arith, c.in-Ok.ensures.short, c.as_slice.ensures.len, ap length c.as_slice.ensures.value)) c.as_slice.ensures.value (c.answer.ensures.front e)

pub returns-in-Err-TooLong-clause-front : goal.returns-in-Err-TooLong-clause-front
returns-in-Err-TooLong-clause-front g c = λ e. cut_too_long _ _ _ _ (c.in-Err-TooLong.ensures.long (ap Err c.in-Err-TooLong.field-0-is)) (c.refuse.ensures.front (stopped_is_not_refused _ e))
