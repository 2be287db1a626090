use Rattle.std.proofs.Common.{◌≡◌, drop}
use Rattle.fk_store.specs.Writes.{done_written}
use Rattle.fk_store.proofs.sessions.done_after.Given as goal

abbrev pub invariant-writing : goal.invariant-writing
invariant-writing l = done_written l.writes l.initial.after ≡ done_written (drop l.write-index l.writes) l.after
