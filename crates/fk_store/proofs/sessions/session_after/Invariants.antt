use Rattle.std.proofs.Common.{◌≡◌, drop}
use Rattle.fk_store.specs.Writes.{session_written}
use Rattle.fk_store.proofs.sessions.session_after.Given as goal

abbrev pub invariant-writing : goal.invariant-writing
invariant-writing l = session_written l.session l.writes l.initial.after ≡ session_written l.session (drop l.write-index l.writes) l.after
