-- Evictions without their cause, which are refused. They change the run of a session that did not answer its ping: that
-- it expired is told at place 2, its close is published at 9, sent at 25, and it was found late at 26.
use Rattle.std.specs.Prelude.{true, false, [], ◌∷◌, codes}
use Rattle.fk_spec.specs.Plan.{plan_of}
use Rattle.fk_spec.specs.Refusals.{RefusalsFit}
use Rattle.fk_refused.specs.Changing.{printing, doing, swapped}
use Rattle.fk_print.specs.declared.line.Act.TheVariants as act
use Rattle.fk_print.specs.declared.line.Line.TheVariants as line
use Rattle.fk_print.specs.declared.op.Op.TheVariants as op
use Rattle.fk_spec.specs.Eviction as evicted

-- A session is evicted that was not found late.
abbrev pub EvictedInTime : Type 0
EvictedInTime = RefusalsFit (plan_of evicted.deployed) (doing 26 (op.ProbeWaiting 5) evicted.entries) → ⊥

-- A session is evicted by a heartbeat where another one found it late.
abbrev pub LateByAnotherFunction : Type 0
LateByAnotherFunction = RefusalsFit (plan_of evicted.deployed) (doing 26 (op.ProbeLate 4 3 0) evicted.entries) → ⊥

-- A session is evicted before it was found late.
abbrev pub FoundLateAfterwards : Type 0
FoundLateAfterwards = RefusalsFit (plan_of evicted.deployed) (swapped 25 evicted.entries) → ⊥

-- A session is evicted by the heartbeat of another one.
abbrev pub EvictedByAnotherBeat : Type 0
EvictedByAnotherBeat = RefusalsFit (plan_of evicted.deployed) (doing 27 (op.Beat 5 2) evicted.entries) → ⊥

-- A session is evicted by a close that its heartbeat did not send.
abbrev pub OtherCloseWasSent : Type 0
OtherCloseWasSent = RefusalsFit (plan_of evicted.deployed) (doing 25 (op.Evict 5 3) evicted.entries) → ⊥

-- A session expires with a transaction that has no line.
abbrev pub ExpiredWithoutALine : Type 0
ExpiredWithoutALine = RefusalsFit (plan_of evicted.deployed) (printing 2 (line.Expired 1 3 ∷ []) evicted.entries) → ⊥

-- A session expires with a transaction that is no close.
abbrev pub ExpiredByACreate : Type 0
ExpiredByACreate = RefusalsFit (plan_of evicted.deployed) (printing 2 (line.Expired 1 1 ∷ []) evicted.entries) → ⊥

-- A session expires with a close of its own client.
abbrev pub ExpiredByItsOwnClose : Type 0
ExpiredByItsOwnClose = RefusalsFit (plan_of evicted.deployed) (printing 9 (line.Tx (record { tx = 2; moment = 42; session = 1; k = 2; act = act.Close false ((codes "e" ∷ []) ∷ []) }) ∷ []) evicted.entries) → ⊥

-- A session expires with the close of another one.
abbrev pub ExpiredByAnotherSession : Type 0
ExpiredByAnotherSession = RefusalsFit (plan_of evicted.deployed) (printing 9 (line.Tx (record { tx = 2; moment = 42; session = 2; k = 2; act = act.Close true ((codes "e" ∷ []) ∷ []) }) ∷ []) evicted.entries) → ⊥
