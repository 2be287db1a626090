use Rattle.std.proofs.Common.{◌≡◌, ℕ}
use Rattle.std.specs.BTreeMap.{btree_map_len}
use Rattle.fk_index.specs.Sessions.{session_over, AreThere}
use Rattle.fk_index.proofs.sessions.put_sessions.Given as goal

abbrev pub invariant-putting : goal.invariant-putting
invariant-putting l =
    ((s : ℕ) → session_over l.drafts l.sessions.items s ≡ session_over l.initial.drafts l.initial.sessions.items s)
    × AreThere l.drafts l.sessions.items

abbrev pub decreases-putting : goal.decreases-putting
decreases-putting l = btree_map_len l.drafts
