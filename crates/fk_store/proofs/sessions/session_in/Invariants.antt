use Rattle.std.proofs.Common.{◌≡◌, ◌+◌, drop}
use Rattle.fk_store.specs.Numbered.{session_at, session_from}
use Rattle.fk_store.proofs.sessions.session_in.Given as goal

abbrev pub invariant-seeking : goal.invariant-seeking
invariant-seeking l = session_at l.session l.sessions ≡ session_from (l.place + 1) l.session (drop l.place l.sessions)
