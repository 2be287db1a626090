use Rattle.std.proofs.Common.{◌≡◌, ℕ, drop}
use Rattle.fk_tree.specs.Tree.{map_some}
use Rattle.fk_store.specs.Numbered.{session_at}
use Rattle.fk_store.specs.Writes.{session_written}
use Rattle.fk_index.specs.Sessions.{session_over, AreThere}
use Rattle.fk_index.proofs.sessions.session_drafts.Given as goal

abbrev pub invariant-writing : goal.invariant-writing
invariant-writing l =
    ((s : ℕ) → map_some (session_written s l.writes) (session_at s l.sessions) ≡ map_some (session_written s (drop l.write-index l.writes)) (session_over l.drafts l.sessions s))
    × AreThere l.drafts l.sessions
