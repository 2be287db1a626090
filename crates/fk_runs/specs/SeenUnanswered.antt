-- A client has seen its change before it is answered. Each entry is copied from the printed history of
-- the case `seen-without-a-reply`.
use Rattle.std.specs.Prelude.{negsuc, true, false, List, [], ◌∷◌, codes}
use Rattle.fk_tree.specs.declared.change.Change.TheVariants as change
use Rattle.fk_tree.specs.declared.change.Kind.TheVariants as kind
use Rattle.fk_print.specs.declared.entry.Entry.{Entry}
use Rattle.fk_print.specs.declared.event.Event.TheVariants as event
use Rattle.fk_print.specs.declared.line.Act.TheVariants as act
use Rattle.fk_print.specs.declared.line.Line.TheVariants as line
use Rattle.fk_print.specs.declared.line.Shown.TheVariants as shown
use Rattle.fk_print.specs.declared.line.Verb.TheVariants as verb
use Rattle.fk_print.specs.declared.op.Op.TheVariants as op
use Rattle.fk_script.specs.declared.command.Command.TheVariants as command
use Rattle.fk_script.specs.declared.deployment.Deployment.{Deployment}
use Rattle.fk_script.specs.declared.deployment.Turn.TheVariants as turn
use Rattle.fk_spec.specs.Scenarios.{entry}
use Rattle.fk_spec.specs.Schedule.{Answered, Scheduled}
use Rattle.fk_runs.specs.Playing.{IsPlayed}

abbrev pub deployed : Deployment
deployed = record { config = record { lock = 10; beat = 30 }; clients = (record { name = (codes "a"); commands = ((command.Create (codes "/x") (codes "0") false false true) ∷ (command.Create (codes "/y") (codes "0") false false true) ∷ (command.Get (codes "/y") true) ∷ (command.Ls (codes "/") false) ∷ (command.Get (codes "/x") false) ∷ []) } ∷ record { name = (codes "b"); commands = ((command.Get (codes "/x") false) ∷ (command.Set (codes "/y") (codes "2") (negsuc 0) true) ∷ (command.Set (codes "/y") (codes "3") (negsuc 0) true) ∷ []) } ∷ []); turns = ((turn.One (event.Client 1)) ∷ (turn.One (event.Deliver 1)) ∷ (turn.One (event.Step 1)) ∷ (turn.One (event.Step 1)) ∷ (turn.One (event.Step 1)) ∷ (turn.One (event.Step 1)) ∷ (turn.One (event.Step 1)) ∷ (turn.One (event.Step 1)) ∷ (turn.One (event.Step 1)) ∷ (turn.One event.Leader) ∷ (turn.One (event.Step 2)) ∷ (turn.One (event.Step 2)) ∷ (turn.One (event.Step 2)) ∷ (turn.One (event.Step 2)) ∷ (turn.One (event.Step 2)) ∷ (turn.One (event.Step 2)) ∷ (turn.One (event.Step 2)) ∷ (turn.One (event.Step 2)) ∷ (turn.One (event.Step 2)) ∷ (turn.One (event.Step 2)) ∷ (turn.One (event.Step 2)) ∷ (turn.One (event.Step 2)) ∷ (turn.One (event.Client 1)) ∷ (turn.One (event.Client 1)) ∷ (turn.One (event.Client 1)) ∷ (turn.One (event.Deliver 1)) ∷ (turn.One (event.Step 3)) ∷ (turn.One (event.Step 3)) ∷ (turn.One (event.Step 3)) ∷ (turn.One (event.Step 3)) ∷ (turn.One (event.Step 3)) ∷ (turn.One (event.Step 3)) ∷ (turn.One (event.Step 3)) ∷ (turn.One event.Leader) ∷ (turn.One (event.Step 4)) ∷ (turn.One (event.Step 4)) ∷ (turn.One (event.Step 4)) ∷ (turn.One (event.Step 4)) ∷ (turn.One (event.Step 4)) ∷ (turn.One (event.Step 4)) ∷ (turn.One (event.Step 4)) ∷ (turn.One (event.Step 4)) ∷ (turn.One (event.Step 4)) ∷ (turn.One (event.Step 4)) ∷ (turn.One (event.Step 4)) ∷ (turn.One (event.Step 4)) ∷ (turn.One (event.Client 1)) ∷ (turn.One (event.Client 1)) ∷ (turn.One (event.Client 1)) ∷ (turn.One (event.Client 1)) ∷ (turn.One (event.Client 1)) ∷ (turn.One (event.Client 2)) ∷ (turn.One (event.Client 2)) ∷ (turn.One (event.Client 2)) ∷ (turn.One (event.Deliver 2)) ∷ (turn.One (event.Step 5)) ∷ (turn.One (event.Step 5)) ∷ (turn.One (event.Step 5)) ∷ (turn.One (event.Crash 5)) ∷ (turn.One event.Leader) ∷ (turn.One (event.Step 6)) ∷ (turn.One (event.Step 6)) ∷ (turn.One (event.Step 6)) ∷ (turn.One (event.Step 6)) ∷ (turn.One (event.Step 6)) ∷ (turn.One (event.Step 6)) ∷ (turn.One (event.Step 6)) ∷ (turn.One (event.Step 6)) ∷ (turn.One (event.Step 6)) ∷ (turn.One (event.Step 6)) ∷ (turn.One (event.Step 6)) ∷ (turn.One (event.Step 6)) ∷ (turn.One event.Watch) ∷ (turn.One (event.Step 7)) ∷ (turn.One (event.Step 7)) ∷ (turn.One (event.Step 7)) ∷ (turn.One (event.Step 7)) ∷ (turn.One (event.Client 1)) ∷ (turn.One (event.Client 1)) ∷ (turn.One (event.Client 1)) ∷ (turn.One (event.Client 1)) ∷ (turn.One (event.Client 1)) ∷ (turn.One (event.Client 2)) ∷ (turn.One (event.Client 2)) ∷ (turn.One (event.Client 2)) ∷ (turn.One (event.Deliver 2)) ∷ (turn.One (event.Step 8)) ∷ (turn.One (event.Step 8)) ∷ (turn.One (event.Step 8)) ∷ (turn.One (event.Deliver 2)) ∷ (turn.One (event.Step 9)) ∷ (turn.One (event.Step 9)) ∷ (turn.One (event.Step 9)) ∷ (turn.One (event.Step 9)) ∷ (turn.One (event.Step 9)) ∷ []); scheduled = true }

-- the newest first
abbrev pub entries : List Entry
entries = entry (event.Client 2) (op.LookOk 2 3 4) ((line.Reply 2 3 verb.Set (shown.Version 4 2)) ∷ [])
    ∷ entry (event.Client 2) (op.TakeDone 2 2 4) []
    ∷ entry (event.Step 10) (op.AckOk 10) []
    ∷ entry (event.Step 10) (op.DoneOk 10 4) []
    ∷ entry (event.Step 10) (op.Reply 10 2 2) []
    ∷ entry (event.Step 10) (op.PublishOk 10 4) ((line.Tx (record { tx = 4; moment = 0; session = 2; k = 2; act = act.Set ((codes "y") ∷ []) (codes "3") (negsuc 0) })) ∷ [])
    ∷ entry (event.Step 10) (op.PutOk 10 4 ((codes "y") ∷ [])) []
    ∷ entry (event.Step 10) (op.SweepOk 10 4 0) []
    ∷ entry (event.Step 10) (op.PendingYes 10 4) []
    ∷ entry (event.Step 10) (op.CommitSettled 10 4 2) []
    ∷ entry event.Leader (op.Leader 10 4) []
    ∷ entry (event.Clock 11) (op.Clock 11) []
    ∷ entry (event.Step 9) (op.AckOk 9) []
    ∷ entry (event.Step 9) (op.CommitOk 9 4) []
    ∷ entry (event.Step 9) (op.Push 9 4) []
    ∷ entry (event.Step 9) (op.LockOk 9 ((codes "y") ∷ [])) []
    ∷ entry (event.Step 9) (op.SessionNew 9) []
    ∷ entry (event.Deliver 2) (op.Follower 9 2 2) []
    ∷ entry (event.Step 8) op.Idle []
    ∷ entry (event.Step 8) (op.AckOk 8) []
    ∷ entry (event.Step 8) (op.SessionApplied 8) []
    ∷ entry (event.Deliver 2) (op.Follower 8 2 1) []
    ∷ entry (event.Client 2) (op.Send 2 3 2) []
    ∷ entry (event.Client 2) (op.LookOk 2 2 3) ((line.Reply 2 2 verb.Set (shown.Version 3 1)) ∷ [])
    ∷ entry (event.Client 2) (op.TakeDone 2 1 3) []
    ∷ entry (event.Client 1) (op.LookOk 1 5 3) ((line.Reply 1 5 verb.Get (shown.Got 3 (codes "0") (record { czxid = 1; mzxid = 1; pzxid = 1; ctime = 0; mtime = 0; version = 0; cversion = 0; aversion = 0; owner = 0; length = 1; children = 0 }))) ∷ [])
    ∷ entry (event.Client 1) (op.Read 1 5 1) []
    ∷ entry (event.Client 1) (op.LookOk 1 4 3) ((line.Reply 1 4 verb.Ls (shown.Listed 3 ((codes "x") ∷ (codes "y") ∷ []))) ∷ [])
    ∷ entry (event.Client 1) (op.Read 1 4 2) []
    ∷ entry (event.Client 1) (op.TakeWatch 1 1) ((line.Notice 1 3 kind.Data change.Changed ((codes "y") ∷ [])) ∷ [])
    ∷ entry (event.Step 7) op.Idle []
    ∷ entry (event.Step 7) (op.AckOk 7) []
    ∷ entry (event.Step 7) (op.Told 7 3) []
    ∷ entry (event.Step 7) (op.Tell 7 1 1) []
    ∷ entry event.Watch (op.Teller 7 1) []
    ∷ entry (event.Step 6) op.Idle []
    ∷ entry (event.Step 6) op.Idle []
    ∷ entry (event.Step 6) op.Idle []
    ∷ entry (event.Step 6) op.Idle []
    ∷ entry (event.Step 6) (op.AckOk 6) []
    ∷ entry (event.Step 6) (op.DoneOk 6 3) []
    ∷ entry (event.Step 6) (op.Reply 6 2 1) []
    ∷ entry (event.Step 6) (op.Notify 6 3 1) []
    ∷ entry (event.Step 6) (op.PublishOk 6 3) ((line.Tx (record { tx = 3; moment = 0; session = 2; k = 1; act = act.Set ((codes "y") ∷ []) (codes "2") (negsuc 0) })) ∷ [])
    ∷ entry (event.Step 6) (op.PutOk 6 3 ((codes "y") ∷ [])) []
    ∷ entry (event.Step 6) (op.SweepOk 6 3 1) []
    ∷ entry (event.Step 6) (op.CommitOk 6 3) []
    ∷ entry event.Leader (op.Leader 6 3) []
    ∷ entry (event.Crash 5) (op.Crash 5) []
    ∷ entry (event.Step 5) (op.Push 5 3) []
    ∷ entry (event.Step 5) (op.LockOk 5 ((codes "y") ∷ [])) []
    ∷ entry (event.Step 5) (op.SessionNew 5) []
    ∷ entry (event.Deliver 2) (op.Follower 5 2 1) []
    ∷ entry (event.Client 2) (op.Send 2 2 1) []
    ∷ entry (event.Client 2) (op.LookOk 2 1 2) ((line.Reply 2 1 verb.Get (shown.Got 1 (codes "0") (record { czxid = 1; mzxid = 1; pzxid = 1; ctime = 0; mtime = 0; version = 0; cversion = 0; aversion = 0; owner = 0; length = 1; children = 0 }))) ∷ [])
    ∷ entry (event.Client 2) (op.Read 2 1 1) []
    ∷ entry (event.Client 1) (op.WatchSet 1 3 1) ((line.Reply 1 3 verb.Get (shown.Got 2 (codes "0") (record { czxid = 2; mzxid = 2; pzxid = 2; ctime = 0; mtime = 0; version = 0; cversion = 0; aversion = 0; owner = 0; length = 1; children = 0 }))) ∷ [])
    ∷ entry (event.Client 1) (op.LookOk 1 3 2) []
    ∷ entry (event.Client 1) (op.Read 1 3 2) []
    ∷ entry (event.Client 1) (op.LookOk 1 2 2) ((line.Reply 1 2 verb.Create (shown.Created 2 ((codes "y") ∷ []))) ∷ [])
    ∷ entry (event.Client 1) (op.TakeDone 1 2 2) []
    ∷ entry (event.Step 4) op.Idle []
    ∷ entry (event.Step 4) op.Idle []
    ∷ entry (event.Step 4) op.Idle []
    ∷ entry (event.Step 4) (op.AckOk 4) []
    ∷ entry (event.Step 4) (op.DoneOk 4 2) []
    ∷ entry (event.Step 4) (op.Reply 4 1 2) []
    ∷ entry (event.Step 4) (op.PublishOk 4 2) ((line.Tx (record { tx = 2; moment = 0; session = 1; k = 2; act = act.Create ((codes "y") ∷ []) (codes "0") false false })) ∷ [])
    ∷ entry (event.Step 4) (op.PutOk 4 2 ((codes "y") ∷ [])) []
    ∷ entry (event.Step 4) (op.PutOk 4 2 []) []
    ∷ entry (event.Step 4) (op.SweepOk 4 2 0) []
    ∷ entry (event.Step 4) (op.PendingYes 4 2) []
    ∷ entry (event.Step 4) (op.CommitSettled 4 2 2) []
    ∷ entry event.Leader (op.Leader 4 2) []
    ∷ entry (event.Step 3) op.Idle []
    ∷ entry (event.Step 3) (op.AckOk 3) []
    ∷ entry (event.Step 3) (op.CommitOk 3 2) []
    ∷ entry (event.Step 3) (op.Push 3 2) []
    ∷ entry (event.Step 3) (op.LockOk 3 ((codes "y") ∷ [])) []
    ∷ entry (event.Step 3) (op.LockOk 3 []) []
    ∷ entry (event.Step 3) (op.SessionNew 3) []
    ∷ entry (event.Deliver 1) (op.Follower 3 1 2) []
    ∷ entry (event.Client 1) (op.Send 1 2 2) []
    ∷ entry (event.Client 1) (op.LookOk 1 1 1) ((line.Reply 1 1 verb.Create (shown.Created 1 ((codes "x") ∷ []))) ∷ [])
    ∷ entry (event.Client 1) (op.TakeDone 1 1 1) []
    ∷ entry (event.Step 2) op.Idle []
    ∷ entry (event.Step 2) op.Idle []
    ∷ entry (event.Step 2) op.Idle []
    ∷ entry (event.Step 2) (op.AckOk 2) []
    ∷ entry (event.Step 2) (op.DoneOk 2 1) []
    ∷ entry (event.Step 2) (op.Reply 2 1 1) []
    ∷ entry (event.Step 2) (op.PublishOk 2 1) ((line.Tx (record { tx = 1; moment = 0; session = 1; k = 1; act = act.Create ((codes "x") ∷ []) (codes "0") false false })) ∷ [])
    ∷ entry (event.Step 2) (op.PutOk 2 1 ((codes "x") ∷ [])) []
    ∷ entry (event.Step 2) (op.PutOk 2 1 []) []
    ∷ entry (event.Step 2) (op.SweepOk 2 1 0) []
    ∷ entry (event.Step 2) (op.PendingYes 2 1) []
    ∷ entry (event.Step 2) (op.CommitSettled 2 1 1) []
    ∷ entry event.Leader (op.Leader 2 1) []
    ∷ entry (event.Step 1) op.Idle []
    ∷ entry (event.Step 1) (op.AckOk 1) []
    ∷ entry (event.Step 1) (op.CommitOk 1 1) []
    ∷ entry (event.Step 1) (op.Push 1 1) []
    ∷ entry (event.Step 1) (op.LockOk 1 ((codes "x") ∷ [])) []
    ∷ entry (event.Step 1) (op.LockOk 1 []) []
    ∷ entry (event.Step 1) (op.SessionNew 1) []
    ∷ entry (event.Deliver 1) (op.Follower 1 1 1) []
    ∷ entry (event.Client 1) (op.Send 1 1 1) []
    ∷ []

abbrev pub SeenUnansweredIsPlayed : Type 0
SeenUnansweredIsPlayed = IsPlayed deployed entries

-- its events are the deployment's turns and a last drain,
abbrev pub SeenUnansweredIsScheduled : Type 0
SeenUnansweredIsScheduled = Scheduled deployed entries

-- and all is answered
abbrev pub SeenUnansweredIsAnswered : Type 0
SeenUnansweredIsAnswered = Answered deployed entries
