use Rattle.std.proofs.Common.{◌-◌, arith}
use Rattle.fk_index.proofs.Numbering.{none_past}
use Rattle.fk_index.proofs.sessions.session_in.Goals as goal

pub returns-then-place-sessions : goal.returns-then-place-sessions
returns-then-place-sessions c = none_past c.args.sessions.now c.args.session (c.args.session - 1) (omega (arith, c.if-session-eq0.false)) (omega (arith, c.if-place-sessions.true))
