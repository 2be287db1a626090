-- Watches are numbered as they are set, one of a path and kind. Each entry is copied from the printed history of
-- the case `watch-numbers`.
use Rattle.std.specs.Prelude.{negsuc, true, false, List, [], ◌∷◌, codes}
use Rattle.fk_tree.specs.declared.change.Change.TheVariants as change
use Rattle.fk_tree.specs.declared.change.Kind.TheVariants as kind
use Rattle.fk_print.specs.declared.entry.Entry.{Entry}
use Rattle.fk_print.specs.declared.event.Event.TheVariants as event
use Rattle.fk_print.specs.declared.line.Act.TheVariants as act
use Rattle.fk_print.specs.declared.line.Line.TheVariants as line
use Rattle.fk_print.specs.declared.line.Shown.TheVariants as shown
use Rattle.fk_print.specs.declared.line.Verb.TheVariants as verb
use Rattle.fk_print.specs.declared.op.Op.TheVariants as op
use Rattle.fk_script.specs.declared.command.Command.TheVariants as command
use Rattle.fk_script.specs.declared.deployment.Deployment.{Deployment}
use Rattle.fk_script.specs.declared.deployment.Turn.TheVariants as turn
use Rattle.fk_spec.specs.Scenarios.{entry}
use Rattle.fk_spec.specs.Schedule.{Answered, Scheduled}
use Rattle.fk_runs.specs.Playing.{IsPlayed}

abbrev pub deployed : Deployment
deployed = record { config = record { lock = 10; beat = 30 }; clients = (record { name = (codes "a"); commands = ((command.Create (codes "/x") (codes "0") false false true) ∷ (command.Get (codes "/x") true) ∷ (command.Get (codes "/x") true) ∷ (command.Ls (codes "/") true) ∷ (command.Stat (codes "/x") true) ∷ []) } ∷ record { name = (codes "b"); commands = ((command.Get (codes "/x") true) ∷ (command.Create (codes "/x/k") (codes "1") false false true) ∷ (command.Ls (codes "/x") true) ∷ (command.Set (codes "/x") (codes "2") (negsuc 0) true) ∷ []) } ∷ []); turns = ((turn.One (event.Client 1)) ∷ (turn.One (event.Deliver 1)) ∷ (turn.One (event.Step 1)) ∷ (turn.One (event.Step 1)) ∷ (turn.One (event.Step 1)) ∷ (turn.One (event.Step 1)) ∷ (turn.One (event.Step 1)) ∷ (turn.One (event.Step 1)) ∷ (turn.One (event.Step 1)) ∷ (turn.One event.Leader) ∷ (turn.One (event.Step 2)) ∷ (turn.One (event.Step 2)) ∷ (turn.One (event.Step 2)) ∷ (turn.One (event.Step 2)) ∷ (turn.One (event.Step 2)) ∷ (turn.One (event.Step 2)) ∷ (turn.One (event.Step 2)) ∷ (turn.One (event.Step 2)) ∷ (turn.One (event.Step 2)) ∷ (turn.One (event.Step 2)) ∷ (turn.One (event.Step 2)) ∷ (turn.One (event.Step 2)) ∷ (turn.One (event.Client 1)) ∷ (turn.One (event.Client 1)) ∷ (turn.One (event.Client 1)) ∷ (turn.One (event.Client 1)) ∷ (turn.One (event.Client 1)) ∷ (turn.One (event.Client 2)) ∷ (turn.One (event.Client 2)) ∷ (turn.One (event.Client 2)) ∷ (turn.One (event.Client 2)) ∷ (turn.One (event.Deliver 2)) ∷ (turn.One (event.Step 3)) ∷ (turn.One (event.Step 3)) ∷ (turn.One (event.Step 3)) ∷ (turn.One (event.Step 3)) ∷ (turn.One (event.Step 3)) ∷ (turn.One (event.Step 3)) ∷ (turn.One (event.Client 1)) ∷ (turn.One (event.Client 1)) ∷ (turn.One (event.Client 1)) ∷ (turn.One (event.Client 1)) ∷ (turn.One (event.Client 1)) ∷ (turn.One event.Leader) ∷ (turn.One (event.Step 4)) ∷ (turn.One (event.Step 4)) ∷ (turn.One (event.Step 4)) ∷ (turn.One (event.Step 4)) ∷ (turn.One (event.Client 1)) ∷ (turn.One (event.Step 4)) ∷ (turn.One (event.Step 4)) ∷ (turn.One (event.Step 4)) ∷ (turn.One (event.Step 4)) ∷ (turn.One (event.Step 4)) ∷ (turn.One (event.Step 4)) ∷ (turn.One (event.Client 1)) ∷ (turn.One (event.Client 1)) ∷ (turn.One (event.Client 1)) ∷ (turn.One (event.Client 1)) ∷ (turn.One (event.Client 2)) ∷ (turn.One (event.Client 2)) ∷ (turn.One (event.Client 2)) ∷ (turn.One (event.Client 2)) ∷ (turn.One (event.Client 2)) ∷ (turn.One (event.Client 2)) ∷ []); scheduled = true }

-- the newest first
abbrev pub entries : List Entry
entries = entry (event.Client 2) (op.LookOk 2 4 3) ((line.Reply 2 4 verb.Set (shown.Version 3 1)) ∷ [])
    ∷ entry (event.Client 2) (op.TakeWatch 2 2) ((line.Notice 2 3 kind.Data change.Changed ((codes "x") ∷ [])) ∷ [])
    ∷ entry (event.Client 2) (op.TakeDone 2 2 3) []
    ∷ entry (event.Client 1) (op.TakeWatch 1 1) ((line.Notice 1 3 kind.Data change.Changed ((codes "x") ∷ [])) ∷ [])
    ∷ entry (event.Step 7) (op.AckOk 7) []
    ∷ entry (event.Step 7) (op.Told 7 3) []
    ∷ entry (event.Step 7) (op.Tell 7 2 2) []
    ∷ entry (event.Step 7) (op.Tell 7 1 1) []
    ∷ entry event.Watch (op.Teller 7 1) []
    ∷ entry (event.Step 6) (op.AckOk 6) []
    ∷ entry (event.Step 6) (op.DoneOk 6 3) []
    ∷ entry (event.Step 6) (op.Reply 6 2 2) []
    ∷ entry (event.Step 6) (op.Notify 6 3 1) []
    ∷ entry (event.Step 6) (op.PublishOk 6 3) ((line.Tx (record { tx = 3; moment = 11; session = 2; k = 2; act = act.Set ((codes "x") ∷ []) (codes "2") (negsuc 0) })) ∷ [])
    ∷ entry (event.Step 6) (op.PutOk 6 3 ((codes "x") ∷ [])) []
    ∷ entry (event.Step 6) (op.SweepOk 6 3 2) []
    ∷ entry (event.Step 6) (op.PendingYes 6 3) []
    ∷ entry (event.Step 6) (op.CommitSettled 6 3 2) []
    ∷ entry event.Leader (op.Leader 6 3) []
    ∷ entry (event.Step 5) (op.AckOk 5) []
    ∷ entry (event.Step 5) (op.CommitOk 5 3) []
    ∷ entry (event.Step 5) (op.Push 5 3) []
    ∷ entry (event.Step 5) (op.LockOk 5 ((codes "x") ∷ [])) []
    ∷ entry (event.Step 5) (op.SessionNew 5) []
    ∷ entry (event.Deliver 2) (op.Follower 5 2 2) []
    ∷ entry (event.Clock 11) (op.Clock 11) []
    ∷ entry (event.Client 2) (op.Send 2 4 2) []
    ∷ entry (event.Client 2) (op.WatchSet 2 3 4) ((line.Reply 2 3 verb.Ls (shown.Listed 2 ((codes "k") ∷ []))) ∷ [])
    ∷ entry (event.Client 2) (op.LookOk 2 3 2) []
    ∷ entry (event.Client 2) (op.Read 2 3 2) []
    ∷ entry (event.Client 2) (op.LookOk 2 2 2) ((line.Reply 2 2 verb.Create (shown.Created 2 ((codes "x") ∷ (codes "k") ∷ []))) ∷ [])
    ∷ entry (event.Client 2) (op.TakeDone 2 1 2) []
    ∷ entry (event.Client 1) op.Idle []
    ∷ entry (event.Client 1) (op.WatchSet 1 5 1) ((line.Reply 1 5 verb.Stat (shown.Stated 2 (record { czxid = 1; mzxid = 1; pzxid = 2; ctime = 0; mtime = 0; version = 0; cversion = 1; aversion = 0; owner = 0; length = 1; children = 1 }))) ∷ [])
    ∷ entry (event.Client 1) (op.LookOk 1 5 2) []
    ∷ entry (event.Client 1) (op.Read 1 5 2) []
    ∷ entry (event.Step 4) op.Idle []
    ∷ entry (event.Step 4) (op.AckOk 4) []
    ∷ entry (event.Step 4) (op.DoneOk 4 2) []
    ∷ entry (event.Step 4) (op.Reply 4 2 1) []
    ∷ entry (event.Step 4) (op.PublishOk 4 2) ((line.Tx (record { tx = 2; moment = 0; session = 2; k = 1; act = act.Create ((codes "x") ∷ (codes "k") ∷ []) (codes "1") false false })) ∷ [])
    ∷ entry (event.Step 4) (op.PutOk 4 2 ((codes "x") ∷ (codes "k") ∷ [])) []
    ∷ entry (event.Client 1) (op.WatchSet 1 4 3) ((line.Reply 1 4 verb.Ls (shown.Listed 1 ((codes "x") ∷ []))) ∷ [])
    ∷ entry (event.Step 4) (op.PutOk 4 2 ((codes "x") ∷ [])) []
    ∷ entry (event.Step 4) (op.SweepOk 4 2 0) []
    ∷ entry (event.Step 4) (op.PendingYes 4 2) []
    ∷ entry (event.Step 4) (op.CommitSettled 4 2 1) []
    ∷ entry event.Leader (op.Leader 4 2) []
    ∷ entry (event.Client 1) (op.LookOk 1 4 1) []
    ∷ entry (event.Client 1) (op.Read 1 4 1) []
    ∷ entry (event.Client 1) (op.WatchSet 1 3 1) ((line.Reply 1 3 verb.Get (shown.Got 1 (codes "0") (record { czxid = 1; mzxid = 1; pzxid = 1; ctime = 0; mtime = 0; version = 0; cversion = 0; aversion = 0; owner = 0; length = 1; children = 0 }))) ∷ [])
    ∷ entry (event.Client 1) (op.LookOk 1 3 1) []
    ∷ entry (event.Client 1) (op.Read 1 3 1) []
    ∷ entry (event.Step 3) (op.AckOk 3) []
    ∷ entry (event.Step 3) (op.CommitOk 3 2) []
    ∷ entry (event.Step 3) (op.Push 3 2) []
    ∷ entry (event.Step 3) (op.LockOk 3 ((codes "x") ∷ (codes "k") ∷ [])) []
    ∷ entry (event.Step 3) (op.LockOk 3 ((codes "x") ∷ [])) []
    ∷ entry (event.Step 3) (op.SessionNew 3) []
    ∷ entry (event.Deliver 2) (op.Follower 3 2 1) []
    ∷ entry (event.Client 2) (op.Send 2 2 1) []
    ∷ entry (event.Client 2) (op.WatchSet 2 1 2) ((line.Reply 2 1 verb.Get (shown.Got 1 (codes "0") (record { czxid = 1; mzxid = 1; pzxid = 1; ctime = 0; mtime = 0; version = 0; cversion = 0; aversion = 0; owner = 0; length = 1; children = 0 }))) ∷ [])
    ∷ entry (event.Client 2) (op.LookOk 2 1 1) []
    ∷ entry (event.Client 2) (op.Read 2 1 1) []
    ∷ entry (event.Client 1) (op.WatchSet 1 2 1) ((line.Reply 1 2 verb.Get (shown.Got 1 (codes "0") (record { czxid = 1; mzxid = 1; pzxid = 1; ctime = 0; mtime = 0; version = 0; cversion = 0; aversion = 0; owner = 0; length = 1; children = 0 }))) ∷ [])
    ∷ entry (event.Client 1) (op.LookOk 1 2 1) []
    ∷ entry (event.Client 1) (op.Read 1 2 1) []
    ∷ entry (event.Client 1) (op.LookOk 1 1 1) ((line.Reply 1 1 verb.Create (shown.Created 1 ((codes "x") ∷ []))) ∷ [])
    ∷ entry (event.Client 1) (op.TakeDone 1 1 1) []
    ∷ entry (event.Step 2) op.Idle []
    ∷ entry (event.Step 2) op.Idle []
    ∷ entry (event.Step 2) op.Idle []
    ∷ entry (event.Step 2) (op.AckOk 2) []
    ∷ entry (event.Step 2) (op.DoneOk 2 1) []
    ∷ entry (event.Step 2) (op.Reply 2 1 1) []
    ∷ entry (event.Step 2) (op.PublishOk 2 1) ((line.Tx (record { tx = 1; moment = 0; session = 1; k = 1; act = act.Create ((codes "x") ∷ []) (codes "0") false false })) ∷ [])
    ∷ entry (event.Step 2) (op.PutOk 2 1 ((codes "x") ∷ [])) []
    ∷ entry (event.Step 2) (op.PutOk 2 1 []) []
    ∷ entry (event.Step 2) (op.SweepOk 2 1 0) []
    ∷ entry (event.Step 2) (op.PendingYes 2 1) []
    ∷ entry (event.Step 2) (op.CommitSettled 2 1 1) []
    ∷ entry event.Leader (op.Leader 2 1) []
    ∷ entry (event.Step 1) op.Idle []
    ∷ entry (event.Step 1) (op.AckOk 1) []
    ∷ entry (event.Step 1) (op.CommitOk 1 1) []
    ∷ entry (event.Step 1) (op.Push 1 1) []
    ∷ entry (event.Step 1) (op.LockOk 1 ((codes "x") ∷ [])) []
    ∷ entry (event.Step 1) (op.LockOk 1 []) []
    ∷ entry (event.Step 1) (op.SessionNew 1) []
    ∷ entry (event.Deliver 1) (op.Follower 1 1 1) []
    ∷ entry (event.Client 1) (op.Send 1 1 1) []
    ∷ []

abbrev pub WatchNumbersIsPlayed : Type 0
WatchNumbersIsPlayed = IsPlayed deployed entries

-- its events are the deployment's turns and a last drain,
abbrev pub WatchNumbersIsScheduled : Type 0
WatchNumbersIsScheduled = Scheduled deployed entries

-- and all is answered
abbrev pub WatchNumbersIsAnswered : Type 0
WatchNumbersIsAnswered = Answered deployed entries
