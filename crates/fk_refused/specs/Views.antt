-- Views that go back, and are refused.
use Rattle.std.specs.Prelude.{[], ◌∷◌}
use Rattle.fk_tree.specs.declared.node.Stat.{Stat}
use Rattle.fk_spec.specs.Promises.{ViewNeverFalls}
use Rattle.fk_refused.specs.Changing.{printing, only_printing}
use Rattle.fk_base.specs.declared.code.Code.TheVariants as code
use Rattle.fk_print.specs.declared.line.Line.TheVariants as line
use Rattle.fk_print.specs.declared.line.Shown.TheVariants as shown
use Rattle.fk_print.specs.declared.line.Verb.TheVariants as verb
use Rattle.fk_spec.specs.ReadHeld as held
use Rattle.fk_spec.specs.CreateThenGet as got
use Rattle.fk_spec.specs.Eviction as evicted

-- the stat of the root before any transaction
abbrev pub root_stat : Stat
root_stat = record { czxid = 0; mzxid = 0; pzxid = 0; ctime = 0; mtime = 0; version = 0; cversion = 0; aversion = 0; owner = 0; length = 0; children = 0 }

-- A client reads tree 0 after its create made tree 1.
abbrev pub OlderRead : Type 0
OlderRead = ViewNeverFalls (printing 0 (line.Reply 1 2 verb.Get (shown.Got 0 [] root_stat) ∷ []) got.entries) → ⊥

-- A client finds no node in tree 0 after its create made tree 1.
abbrev pub OlderMissing : Type 0
OlderMissing = ViewNeverFalls (printing 0 (line.Reply 1 2 verb.Get (shown.Refused code.NoNode 0 0) ∷ []) got.entries) → ⊥

-- A client reads tree 0 after it was notified of transaction 1.
abbrev pub ReadBehindANotice : Type 0
ReadBehindANotice = ViewNeverFalls (printing 19 (line.Reply 1 2 verb.Get (shown.Got 0 [] root_stat) ∷ []) held.entries) → ⊥

-- A read is refused at tree 1 after its client was told that transaction 2 closed its session.
abbrev pub ReadBehindAnExpiry : Type 0
ReadBehindAnExpiry = ViewNeverFalls (printing 0 (line.Reply 1 2 verb.Get (shown.Refused code.SessionExpired 1 0) ∷ []) evicted.entries) → ⊥

-- A client reads tree 1 after it read tree 2.
abbrev pub ReadBehindARead : Type 0
ReadBehindARead = ViewNeverFalls (only_printing (line.Reply 1 2 verb.Ls (shown.Listed 1 []) ∷ line.Reply 1 1 verb.Ls (shown.Listed 2 []) ∷ [])) → ⊥
