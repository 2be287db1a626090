use Rattle.std.proofs.Common.{◌≡◌}
use Rattle.fk_store.specs.Numbered.{new_sessions}
use Rattle.fk_store.proofs.sessions.new_sessions.Given as goal

abbrev pub invariant-adding : goal.invariant-adding
invariant-adding l = l.sessions.items ≡ new_sessions l._session
