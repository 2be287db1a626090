-- Replies come in the order of the commands, however late they are told. Each entry is copied from the printed history of
-- the case `replies-that-come-late`.
use Rattle.std.specs.Prelude.{negsuc, true, false, List, [], ◌∷◌, codes}
use Rattle.fk_tree.specs.declared.change.Change.TheVariants as change
use Rattle.fk_tree.specs.declared.change.Kind.TheVariants as kind
use Rattle.fk_print.specs.declared.entry.Entry.{Entry}
use Rattle.fk_print.specs.declared.event.Event.TheVariants as event
use Rattle.fk_print.specs.declared.line.Act.TheVariants as act
use Rattle.fk_print.specs.declared.line.Line.TheVariants as line
use Rattle.fk_print.specs.declared.line.Shown.TheVariants as shown
use Rattle.fk_print.specs.declared.line.Verb.TheVariants as verb
use Rattle.fk_print.specs.declared.op.Op.TheVariants as op
use Rattle.fk_print.specs.declared.op.Word.TheVariants as word
use Rattle.fk_script.specs.declared.command.Command.TheVariants as command
use Rattle.fk_script.specs.declared.deployment.Deployment.{Deployment}
use Rattle.fk_script.specs.declared.deployment.Turn.TheVariants as turn
use Rattle.fk_spec.specs.Scenarios.{entry}
use Rattle.fk_spec.specs.Schedule.{Answered, Scheduled}
use Rattle.fk_runs.specs.Playing.{IsPlayed}

abbrev pub deployed : Deployment
deployed = record { config = record { lock = 10; beat = 30 }; clients = (record { name = (codes "a"); commands = ((command.Create (codes "/x") (codes "0") false false true) ∷ (command.Get (codes "/x") true) ∷ (command.Get (codes "/x") false) ∷ []) } ∷ record { name = (codes "b"); commands = ((command.Set (codes "/x") (codes "1") (negsuc 0) true) ∷ []) } ∷ []); turns = ((turn.One (event.Client 1)) ∷ (turn.One (event.Deliver 1)) ∷ (turn.One (event.Step 1)) ∷ (turn.One (event.Step 1)) ∷ (turn.One (event.Step 1)) ∷ (turn.One (event.Step 1)) ∷ (turn.One (event.Step 1)) ∷ (turn.One (event.Step 1)) ∷ (turn.One (event.Step 1)) ∷ (turn.One event.Leader) ∷ (turn.One event.Leader) ∷ (turn.One (event.Step 2)) ∷ (turn.One (event.Step 2)) ∷ (turn.One (event.Step 2)) ∷ (turn.One (event.Step 2)) ∷ (turn.One (event.Step 3)) ∷ (turn.One (event.Step 3)) ∷ (turn.One (event.Step 3)) ∷ (turn.One (event.Step 3)) ∷ (turn.One (event.Step 2)) ∷ (turn.One (event.Step 2)) ∷ (turn.One (event.Step 2)) ∷ (turn.One (event.Step 2)) ∷ (turn.One (event.Step 2)) ∷ (turn.One (event.Step 2)) ∷ (turn.One (event.Step 2)) ∷ (turn.One (event.Client 1)) ∷ (turn.One (event.Client 1)) ∷ (turn.One (event.Client 1)) ∷ (turn.One (event.Step 3)) ∷ (turn.One (event.Step 3)) ∷ (turn.One (event.Step 3)) ∷ (turn.One (event.Step 3)) ∷ (turn.One (event.Step 3)) ∷ (turn.One (event.Step 3)) ∷ (turn.One (event.Client 1)) ∷ (turn.One (event.Client 1)) ∷ (turn.One (event.Client 1)) ∷ (turn.One (event.Client 1)) ∷ (turn.One (event.Client 2)) ∷ (turn.One (event.Deliver 2)) ∷ (turn.One (event.Step 4)) ∷ (turn.One (event.Step 4)) ∷ (turn.One (event.Step 4)) ∷ (turn.One (event.Step 4)) ∷ (turn.One (event.Step 4)) ∷ (turn.One (event.Step 4)) ∷ (turn.One event.Leader) ∷ (turn.One (event.Step 5)) ∷ (turn.One (event.Step 5)) ∷ (turn.One (event.Fail 5)) ∷ (turn.One event.Leader) ∷ (turn.One (event.Step 6)) ∷ (turn.One (event.Step 6)) ∷ (turn.One (event.Step 6)) ∷ (turn.One (event.Step 6)) ∷ (turn.One (event.Step 6)) ∷ (turn.One (event.Fail 6)) ∷ (turn.One event.Leader) ∷ (turn.One (event.Step 7)) ∷ (turn.One (event.Step 7)) ∷ (turn.One (event.Step 7)) ∷ (turn.One (event.Step 7)) ∷ (turn.One (event.Step 7)) ∷ (turn.One (event.Step 7)) ∷ (turn.One (event.Step 7)) ∷ (turn.One (event.Step 7)) ∷ (turn.One (event.Step 7)) ∷ (turn.One (event.Step 7)) ∷ (turn.One event.Watch) ∷ (turn.One (event.Step 8)) ∷ (turn.One (event.Fail 8)) ∷ (turn.One event.Watch) ∷ (turn.One (event.Step 9)) ∷ (turn.One (event.Step 9)) ∷ (turn.One (event.Step 9)) ∷ (turn.One (event.Step 9)) ∷ (turn.One (event.FailClient 1)) ∷ (turn.One (event.Client 1)) ∷ (turn.One (event.Client 1)) ∷ (turn.One (event.Client 1)) ∷ (turn.One (event.Client 1)) ∷ (turn.One (event.Client 1)) ∷ (turn.One (event.Client 2)) ∷ (turn.One (event.Client 2)) ∷ []); scheduled = true }

-- the newest first
abbrev pub entries : List Entry
entries = entry (event.Clock 11) (op.Clock 11) []
    ∷ entry (event.Client 2) (op.LookOk 2 1 2) ((line.Reply 2 1 verb.Set (shown.Version 2 1)) ∷ [])
    ∷ entry (event.Client 2) (op.TakeDone 2 1 2) []
    ∷ entry (event.Client 1) op.Idle []
    ∷ entry (event.Client 1) (op.LookOk 1 3 2) ((line.Reply 1 3 verb.Get (shown.Got 2 (codes "1") (record { czxid = 1; mzxid = 2; pzxid = 1; ctime = 0; mtime = 0; version = 1; cversion = 0; aversion = 0; owner = 0; length = 1; children = 0 }))) ∷ [])
    ∷ entry (event.Client 1) (op.Read 1 3 2) []
    ∷ entry (event.Client 1) (op.TakeWatch 1 1) []
    ∷ entry (event.Client 1) (op.TakeWatch 1 1) ((line.Notice 1 2 kind.Data change.Changed ((codes "x") ∷ [])) ∷ [])
    ∷ entry (event.FailClient 1) (op.TakeFault 1) []
    ∷ entry (event.Step 9) op.Idle []
    ∷ entry (event.Step 9) (op.AckOk 9) []
    ∷ entry (event.Step 9) (op.Told 9 2) []
    ∷ entry (event.Step 9) (op.Tell 9 1 1) []
    ∷ entry event.Watch (op.Teller 9 1) []
    ∷ entry (event.Fail 8) (op.Fault 8 word.Told) []
    ∷ entry (event.Step 8) (op.Tell 8 1 1) []
    ∷ entry event.Watch (op.Teller 8 1) []
    ∷ entry (event.Step 7) op.Idle []
    ∷ entry (event.Step 7) (op.AckOk 7) []
    ∷ entry (event.Step 7) (op.DoneOk 7 2) []
    ∷ entry (event.Step 7) (op.Reply 7 2 1) []
    ∷ entry (event.Step 7) (op.Notify 7 2 1) []
    ∷ entry (event.Step 7) (op.PublishMiss 7 2 2) []
    ∷ entry (event.Step 7) (op.PutMiss 7 2 ((codes "x") ∷ []) 2) []
    ∷ entry (event.Step 7) (op.SweepMiss 7 2 2 1) []
    ∷ entry (event.Step 7) (op.PendingYes 7 2) []
    ∷ entry (event.Step 7) (op.CommitSettled 7 2 1) []
    ∷ entry event.Leader (op.Leader 7 2) []
    ∷ entry (event.Fail 6) (op.Fault 6 word.Notify) []
    ∷ entry (event.Step 6) (op.PublishOk 6 2) ((line.Tx (record { tx = 2; moment = 0; session = 2; k = 1; act = act.Set ((codes "x") ∷ []) (codes "1") (negsuc 0) })) ∷ [])
    ∷ entry (event.Step 6) (op.PutOk 6 2 ((codes "x") ∷ [])) []
    ∷ entry (event.Step 6) (op.SweepOk 6 2 1) []
    ∷ entry (event.Step 6) (op.PendingYes 6 2) []
    ∷ entry (event.Step 6) (op.CommitSettled 6 2 1) []
    ∷ entry event.Leader (op.Leader 6 2) []
    ∷ entry (event.Fail 5) (op.Fault 5 word.Sweep) []
    ∷ entry (event.Step 5) (op.PendingYes 5 2) []
    ∷ entry (event.Step 5) (op.CommitSettled 5 2 1) []
    ∷ entry event.Leader (op.Leader 5 2) []
    ∷ entry (event.Step 4) op.Idle []
    ∷ entry (event.Step 4) (op.AckOk 4) []
    ∷ entry (event.Step 4) (op.CommitOk 4 2) []
    ∷ entry (event.Step 4) (op.Push 4 2) []
    ∷ entry (event.Step 4) (op.LockOk 4 ((codes "x") ∷ [])) []
    ∷ entry (event.Step 4) (op.SessionNew 4) []
    ∷ entry (event.Deliver 2) (op.Follower 4 2 1) []
    ∷ entry (event.Client 2) (op.Send 2 1 1) []
    ∷ entry (event.Client 1) (op.WatchSet 1 2 1) ((line.Reply 1 2 verb.Get (shown.Got 1 (codes "0") (record { czxid = 1; mzxid = 1; pzxid = 1; ctime = 0; mtime = 0; version = 0; cversion = 0; aversion = 0; owner = 0; length = 1; children = 0 }))) ∷ [])
    ∷ entry (event.Client 1) (op.LookOk 1 2 1) []
    ∷ entry (event.Client 1) (op.Read 1 2 1) []
    ∷ entry (event.Client 1) (op.TakeDone 1 1 1) []
    ∷ entry (event.Step 3) op.Idle []
    ∷ entry (event.Step 3) (op.AckGone 3) []
    ∷ entry (event.Step 3) (op.DoneMiss 3 1 1) []
    ∷ entry (event.Step 3) (op.Reply 3 1 1) []
    ∷ entry (event.Step 3) (op.PublishMiss 3 1 1) []
    ∷ entry (event.Step 3) (op.PutMiss 3 1 ((codes "x") ∷ []) 1) []
    ∷ entry (event.Client 1) (op.Read 1 2 1) []
    ∷ entry (event.Client 1) (op.LookOk 1 1 1) ((line.Reply 1 1 verb.Create (shown.Created 1 ((codes "x") ∷ []))) ∷ [])
    ∷ entry (event.Client 1) (op.TakeDone 1 1 1) []
    ∷ entry (event.Step 2) op.Idle []
    ∷ entry (event.Step 2) op.Idle []
    ∷ entry (event.Step 2) (op.AckOk 2) []
    ∷ entry (event.Step 2) (op.DoneOk 2 1) []
    ∷ entry (event.Step 2) (op.Reply 2 1 1) []
    ∷ entry (event.Step 2) (op.PublishOk 2 1) ((line.Tx (record { tx = 1; moment = 0; session = 1; k = 1; act = act.Create ((codes "x") ∷ []) (codes "0") false false })) ∷ [])
    ∷ entry (event.Step 2) (op.PutOk 2 1 ((codes "x") ∷ [])) []
    ∷ entry (event.Step 3) (op.PutMiss 3 1 [] 1) []
    ∷ entry (event.Step 3) (op.SweepMiss 3 1 1 0) []
    ∷ entry (event.Step 3) (op.PendingYes 3 1) []
    ∷ entry (event.Step 3) (op.CommitSettled 3 1 1) []
    ∷ entry (event.Step 2) (op.PutOk 2 1 []) []
    ∷ entry (event.Step 2) (op.SweepOk 2 1 0) []
    ∷ entry (event.Step 2) (op.PendingYes 2 1) []
    ∷ entry (event.Step 2) (op.CommitSettled 2 1 1) []
    ∷ entry event.Leader (op.Leader 3 1) []
    ∷ entry event.Leader (op.Leader 2 1) []
    ∷ entry (event.Step 1) op.Idle []
    ∷ entry (event.Step 1) (op.AckOk 1) []
    ∷ entry (event.Step 1) (op.CommitOk 1 1) []
    ∷ entry (event.Step 1) (op.Push 1 1) []
    ∷ entry (event.Step 1) (op.LockOk 1 ((codes "x") ∷ [])) []
    ∷ entry (event.Step 1) (op.LockOk 1 []) []
    ∷ entry (event.Step 1) (op.SessionNew 1) []
    ∷ entry (event.Deliver 1) (op.Follower 1 1 1) []
    ∷ entry (event.Client 1) (op.Send 1 1 1) []
    ∷ []

abbrev pub LateRepliesIsPlayed : Type 0
LateRepliesIsPlayed = IsPlayed deployed entries

-- its events are the deployment's turns and a last drain,
abbrev pub LateRepliesIsScheduled : Type 0
LateRepliesIsScheduled = Scheduled deployed entries

-- and all is answered
abbrev pub LateRepliesIsAnswered : Type 0
LateRepliesIsAnswered = Answered deployed entries
