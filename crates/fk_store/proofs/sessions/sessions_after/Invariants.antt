use Rattle.std.proofs.Common.{◌≡◌, take}
use Rattle.fk_store.specs.Numbered.{sessions_written}
use Rattle.fk_store.proofs.sessions.sessions_after.Given as goal

abbrev pub invariant-writing : goal.invariant-writing
invariant-writing l = l.after.items ≡ sessions_written 1 l.writes (take l.place l.sessions)
