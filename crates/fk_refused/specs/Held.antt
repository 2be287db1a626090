-- Replies that pass a fired watch, and are refused. Most change the run of a client that reads the root with a watch,
-- and again when another has set it: its notification stands at place 21, its second reply at 19.
use Rattle.std.specs.Prelude.{true, false, [], ◌∷◌, negsuc, codes}
use Rattle.fk_print.specs.declared.line.Line.{Line}
use Rattle.fk_tree.specs.declared.node.Stat.{Stat}
use Rattle.fk_script.specs.declared.deployment.Deployment.{Deployment}
use Rattle.fk_spec.specs.Plan.{plan_of}
use Rattle.fk_spec.specs.Promises.{NoReadPassesAWatch}
use Rattle.fk_refused.specs.Changing.{printing, two_clients, only_printing}
use Rattle.fk_base.specs.declared.code.Code.TheVariants as code
use Rattle.fk_tree.specs.declared.change.Change.TheVariants as change
use Rattle.fk_tree.specs.declared.change.Kind.TheVariants as kind
use Rattle.fk_print.specs.declared.line.Act.TheVariants as act
use Rattle.fk_print.specs.declared.line.Line.TheVariants as line
use Rattle.fk_print.specs.declared.line.Shown.TheVariants as shown
use Rattle.fk_print.specs.declared.line.Verb.TheVariants as verb
use Rattle.fk_script.specs.declared.command.Command.TheVariants as command
use Rattle.fk_spec.specs.OwnWatch as own
use Rattle.fk_spec.specs.ReadHeld as held

-- one client reads `/x` with a watch, and then the root; the other creates `/x`
abbrev pub missing_watched : Deployment
missing_watched = two_clients (command.Stat (codes "/x") true ∷ command.Ls (codes "/") false ∷ []) (command.Create (codes "/x") [] false false true ∷ [])

-- one client reads the root with a watch, closes, and reads the root again; the other creates `/x`
abbrev pub closing : Deployment
closing = two_clients (command.Ls (codes "/") true ∷ command.Close ∷ command.Ls (codes "/") false ∷ []) (command.Create (codes "/x") [] false false true ∷ [])

-- one client reads the root three times, twice with a watch; the other sets it, and closes
abbrev pub root_watched : Deployment
root_watched = two_clients (command.Stat (codes "/") true ∷ command.Ls (codes "/") true ∷ command.Ls (codes "/") false ∷ []) (command.Set (codes "/") (codes "1") (negsuc 0) true ∷ command.Close ∷ [])

abbrev pub root_set : Line
root_set = line.Tx (record { tx = 1; moment = 0; session = 2; k = 1; act = act.Set [] (codes "1") (negsuc 0) })

abbrev pub start_stat : Stat
start_stat = record { czxid = 0; mzxid = 0; pzxid = 0; ctime = 0; mtime = 0; version = 0; cversion = 0; aversion = 0; owner = 0; length = 0; children = 0 }

abbrev pub x_made : Line
x_made = line.Tx (record { tx = 1; moment = 0; session = 2; k = 1; act = act.Create (codes "x" ∷ []) [] false false })

-- The reply to a set comes before the notification of its own watch.
abbrev pub NoticeBehindItsReply : Type 0
NoticeBehindItsReply = NoReadPassesAWatch (plan_of own.deployed) (printing 0 (line.Notice 1 2 kind.Data change.Changed (codes "x" ∷ []) ∷ []) (printing 1 (line.Reply 1 3 verb.Set (shown.Version 2 1) ∷ []) own.entries)) → ⊥

-- A read is answered where its client was not notified.
abbrev pub ReadPassesAWatch : Type 0
ReadPassesAWatch = NoReadPassesAWatch (plan_of held.deployed) (printing 21 [] held.entries) → ⊥

-- A read finds no node where its client was not notified.
abbrev pub MissingPassesAWatch : Type 0
MissingPassesAWatch = NoReadPassesAWatch (plan_of held.deployed) (printing 19 (line.Reply 1 2 verb.Get (shown.Refused code.NoNode 1 0) ∷ []) (printing 21 [] held.entries)) → ⊥

-- A read is answered where its client was notified of another kind of watch.
abbrev pub OtherKindWasNotified : Type 0
OtherKindWasNotified = NoReadPassesAWatch (plan_of held.deployed) (printing 21 (line.Notice 1 1 kind.Child change.Child [] ∷ []) held.entries) → ⊥

-- A read is answered where its client was notified of another path.
abbrev pub OtherPathWasNotified : Type 0
OtherPathWasNotified = NoReadPassesAWatch (plan_of held.deployed) (printing 21 (line.Notice 1 1 kind.Data change.Changed (codes "x" ∷ []) ∷ []) held.entries) → ⊥

-- A read is answered where another client was notified.
abbrev pub OtherClientWasNotified : Type 0
OtherClientWasNotified = NoReadPassesAWatch (plan_of held.deployed) (printing 21 (line.Notice 2 1 kind.Data change.Changed [] ∷ []) held.entries) → ⊥

-- A read is answered where another client lost its session.
abbrev pub OtherClientExpired : Type 0
OtherClientExpired = NoReadPassesAWatch (plan_of held.deployed) (printing 21 (line.Expired 2 1 ∷ []) held.entries) → ⊥

-- A read is answered where its client watches a node that was missing, and was made.
abbrev pub MissingIsWatched : Type 0
MissingIsWatched = NoReadPassesAWatch (plan_of missing_watched) (only_printing (line.Reply 1 2 verb.Ls (shown.Listed 1 (codes "x" ∷ [])) ∷ x_made ∷ line.Reply 1 1 verb.Stat (shown.Refused code.NoNode 0 0) ∷ [])) → ⊥

-- A read is answered where its client holds its watch behind a close that failed.
abbrev pub UnclosedIsWatched : Type 0
UnclosedIsWatched = NoReadPassesAWatch (plan_of closing) (only_printing (line.Reply 1 3 verb.Ls (shown.Listed 1 (codes "x" ∷ [])) ∷ line.Reply 1 2 verb.Close (shown.Plain code.ConnectionLoss) ∷ x_made ∷ line.Reply 1 1 verb.Ls (shown.Listed 0 []) ∷ [])) → ⊥

-- A read is answered where its client watches by a stat a node that was set.
abbrev pub StatedIsWatched : Type 0
StatedIsWatched = NoReadPassesAWatch (plan_of root_watched) (only_printing (line.Reply 1 3 verb.Ls (shown.Listed 1 []) ∷ root_set ∷ line.Reply 1 1 verb.Stat (shown.Stated 0 start_stat) ∷ [])) → ⊥

-- A read is answered where its client holds two watches, and the older one fired.
abbrev pub OlderWatchIsPassed : Type 0
OlderWatchIsPassed = NoReadPassesAWatch (plan_of root_watched) (only_printing (line.Reply 1 3 verb.Ls (shown.Listed 1 []) ∷ root_set ∷ line.Reply 1 2 verb.Ls (shown.Listed 0 []) ∷ line.Reply 1 1 verb.Stat (shown.Stated 0 start_stat) ∷ [])) → ⊥

-- A read is answered where its client holds its watch behind the close of another client.
abbrev pub OtherClientCloses : Type 0
OtherClientCloses = NoReadPassesAWatch (plan_of root_watched) (only_printing (line.Reply 1 3 verb.Ls (shown.Listed 1 []) ∷ line.Reply 2 2 verb.Close (shown.Done 2) ∷ root_set ∷ line.Reply 1 1 verb.Stat (shown.Stated 0 start_stat) ∷ [])) → ⊥
