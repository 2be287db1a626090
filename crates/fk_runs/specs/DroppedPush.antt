-- A push whose lock passed on is dropped by its leader. Each entry is copied from the printed history of
-- the case `a-push-that-is-dropped`.
use Rattle.std.specs.Prelude.{negsuc, true, false, List, [], ◌∷◌, codes}
use Rattle.fk_print.specs.declared.entry.Entry.{Entry}
use Rattle.fk_print.specs.declared.event.Event.TheVariants as event
use Rattle.fk_print.specs.declared.line.Act.TheVariants as act
use Rattle.fk_print.specs.declared.line.Line.TheVariants as line
use Rattle.fk_print.specs.declared.line.Shown.TheVariants as shown
use Rattle.fk_print.specs.declared.line.Verb.TheVariants as verb
use Rattle.fk_print.specs.declared.op.Op.TheVariants as op
use Rattle.fk_print.specs.declared.op.Word.TheVariants as word
use Rattle.fk_script.specs.declared.command.Command.TheVariants as command
use Rattle.fk_script.specs.declared.deployment.Deployment.{Deployment}
use Rattle.fk_script.specs.declared.deployment.Turn.TheVariants as turn
use Rattle.fk_spec.specs.Scenarios.{entry}
use Rattle.fk_spec.specs.Schedule.{Answered, Scheduled}
use Rattle.fk_runs.specs.Playing.{IsPlayed}

abbrev pub deployed : Deployment
deployed = record { config = record { lock = 2; beat = 30 }; clients = (record { name = (codes "a"); commands = ((command.Create (codes "/x") (codes "0") false false true) ∷ (command.Set (codes "/x") (codes "1") (negsuc 0) true) ∷ (command.Set (codes "/x") (codes "3") (negsuc 0) true) ∷ []) } ∷ record { name = (codes "b"); commands = ((command.Set (codes "/x") (codes "2") (negsuc 0) true) ∷ []) } ∷ []); turns = ((turn.One (event.Client 1)) ∷ (turn.One (event.Deliver 1)) ∷ (turn.One (event.Step 1)) ∷ (turn.One (event.Step 1)) ∷ (turn.One (event.Step 1)) ∷ (turn.One (event.Step 1)) ∷ (turn.One (event.Step 1)) ∷ (turn.One (event.Step 1)) ∷ (turn.One (event.Step 1)) ∷ (turn.One event.Leader) ∷ (turn.One (event.Step 2)) ∷ (turn.One (event.Step 2)) ∷ (turn.One (event.Step 2)) ∷ (turn.One (event.Step 2)) ∷ (turn.One (event.Step 2)) ∷ (turn.One (event.Step 2)) ∷ (turn.One (event.Step 2)) ∷ (turn.One (event.Step 2)) ∷ (turn.One (event.Step 2)) ∷ (turn.One (event.Step 2)) ∷ (turn.One (event.Step 2)) ∷ (turn.One (event.Step 2)) ∷ (turn.One (event.Client 1)) ∷ (turn.One (event.Client 1)) ∷ (turn.One (event.Client 1)) ∷ (turn.One (event.Deliver 1)) ∷ (turn.One (event.Deliver 1)) ∷ (turn.One (event.Step 3)) ∷ (turn.One (event.Step 3)) ∷ (turn.One (event.Step 3)) ∷ (turn.One (event.Crash 3)) ∷ (turn.One (event.Clock 3)) ∷ (turn.One (event.Client 2)) ∷ (turn.One (event.Deliver 2)) ∷ (turn.One (event.Step 5)) ∷ (turn.One (event.Step 5)) ∷ (turn.One event.Leader) ∷ (turn.One (event.Step 6)) ∷ (turn.One (event.Step 6)) ∷ (turn.One (event.Fail 6)) ∷ (turn.One event.Leader) ∷ (turn.One event.Leader) ∷ (turn.One (event.Step 7)) ∷ (turn.One (event.Step 8)) ∷ (turn.One (event.Step 7)) ∷ (turn.One (event.Step 8)) ∷ (turn.One (event.Step 7)) ∷ (turn.One (event.Step 8)) ∷ (turn.One (event.Step 7)) ∷ (turn.One (event.Step 7)) ∷ (turn.One (event.Step 8)) ∷ (turn.One (event.Step 8)) ∷ (turn.One (event.Step 5)) ∷ (turn.One (event.Step 5)) ∷ (turn.One (event.Step 5)) ∷ (turn.One (event.Step 5)) ∷ (turn.One event.Leader) ∷ (turn.One (event.Step 9)) ∷ (turn.One (event.Step 9)) ∷ (turn.One (event.Step 9)) ∷ (turn.One (event.Step 9)) ∷ (turn.One (event.Step 9)) ∷ (turn.One (event.Step 9)) ∷ (turn.One (event.Step 9)) ∷ (turn.One (event.Step 9)) ∷ (turn.One (event.Step 9)) ∷ (turn.One (event.Step 9)) ∷ (turn.One (event.Client 2)) ∷ (turn.One (event.Client 2)) ∷ (turn.One (event.Deliver 1)) ∷ (turn.One (event.Step 10)) ∷ (turn.One (event.Step 10)) ∷ (turn.One (event.Step 10)) ∷ (turn.One (event.Step 10)) ∷ (turn.One (event.Step 10)) ∷ (turn.One (event.Step 10)) ∷ (turn.One event.Leader) ∷ (turn.One (event.Step 11)) ∷ (turn.One (event.Step 11)) ∷ (turn.One (event.Step 11)) ∷ (turn.One (event.Step 11)) ∷ (turn.One (event.Step 11)) ∷ (turn.One (event.Step 11)) ∷ (turn.One (event.Step 11)) ∷ (turn.One (event.Step 11)) ∷ (turn.One (event.Step 11)) ∷ (turn.One (event.Step 11)) ∷ (turn.One (event.Client 1)) ∷ (turn.One (event.Client 1)) ∷ (turn.One (event.Client 1)) ∷ (turn.One (event.Deliver 1)) ∷ (turn.One (event.Step 12)) ∷ (turn.One (event.Step 12)) ∷ (turn.One (event.Step 12)) ∷ (turn.One (event.Step 12)) ∷ (turn.One (event.Step 12)) ∷ (turn.One (event.Step 12)) ∷ (turn.One (event.Step 4)) ∷ (turn.One (event.Step 4)) ∷ []); scheduled = true }

-- the newest first
abbrev pub entries : List Entry
entries = entry (event.Client 1) (op.LookOk 1 3 5) ((line.Reply 1 3 verb.Set (shown.Version 5 3)) ∷ [])
    ∷ entry (event.Client 1) (op.TakeDone 1 3 5) []
    ∷ entry (event.Step 13) (op.AckOk 13) []
    ∷ entry (event.Step 13) (op.DoneOk 13 5) []
    ∷ entry (event.Step 13) (op.Reply 13 1 3) []
    ∷ entry (event.Step 13) (op.PublishOk 13 5) ((line.Tx (record { tx = 5; moment = 3; session = 1; k = 3; act = act.Set ((codes "x") ∷ []) (codes "3") (negsuc 0) })) ∷ [])
    ∷ entry (event.Step 13) (op.PutOk 13 5 ((codes "x") ∷ [])) []
    ∷ entry (event.Step 13) (op.SweepOk 13 5 0) []
    ∷ entry (event.Step 13) (op.PendingYes 13 5) []
    ∷ entry (event.Step 13) (op.CommitSettled 13 5 3) []
    ∷ entry event.Leader (op.Leader 13 5) []
    ∷ entry (event.Clock 6) (op.Clock 6) []
    ∷ entry (event.Step 4) (op.AckGone 4) []
    ∷ entry (event.Step 4) (op.SessionPast 4) []
    ∷ entry (event.Step 12) op.Idle []
    ∷ entry (event.Step 12) (op.AckOk 12) []
    ∷ entry (event.Step 12) (op.CommitOk 12 5) []
    ∷ entry (event.Step 12) (op.Push 12 5) []
    ∷ entry (event.Step 12) (op.LockOk 12 ((codes "x") ∷ [])) []
    ∷ entry (event.Step 12) (op.SessionNew 12) []
    ∷ entry (event.Deliver 1) (op.Follower 12 1 3) []
    ∷ entry (event.Client 1) (op.Send 1 3 3) []
    ∷ entry (event.Client 1) (op.LookOk 1 2 4) ((line.Reply 1 2 verb.Set (shown.Version 4 2)) ∷ [])
    ∷ entry (event.Client 1) (op.TakeDone 1 2 4) []
    ∷ entry (event.Step 11) op.Idle []
    ∷ entry (event.Step 11) op.Idle []
    ∷ entry (event.Step 11) (op.AckOk 11) []
    ∷ entry (event.Step 11) (op.DoneOk 11 4) []
    ∷ entry (event.Step 11) (op.Reply 11 1 2) []
    ∷ entry (event.Step 11) (op.PublishOk 11 4) ((line.Tx (record { tx = 4; moment = 3; session = 1; k = 2; act = act.Set ((codes "x") ∷ []) (codes "1") (negsuc 0) })) ∷ [])
    ∷ entry (event.Step 11) (op.PutOk 11 4 ((codes "x") ∷ [])) []
    ∷ entry (event.Step 11) (op.SweepOk 11 4 0) []
    ∷ entry (event.Step 11) (op.PendingYes 11 4) []
    ∷ entry (event.Step 11) (op.CommitSettled 11 4 2) []
    ∷ entry event.Leader (op.Leader 11 4) []
    ∷ entry (event.Step 10) op.Idle []
    ∷ entry (event.Step 10) (op.AckOk 10) []
    ∷ entry (event.Step 10) (op.CommitOk 10 4) []
    ∷ entry (event.Step 10) (op.Push 10 4) []
    ∷ entry (event.Step 10) (op.LockOk 10 ((codes "x") ∷ [])) []
    ∷ entry (event.Step 10) (op.SessionNew 10) []
    ∷ entry (event.Deliver 1) (op.Follower 10 1 2) []
    ∷ entry (event.Client 2) (op.LookOk 2 1 3) ((line.Reply 2 1 verb.Set (shown.Version 3 1)) ∷ [])
    ∷ entry (event.Client 2) (op.TakeDone 2 1 3) []
    ∷ entry (event.Step 9) op.Idle []
    ∷ entry (event.Step 9) op.Idle []
    ∷ entry (event.Step 9) (op.AckOk 9) []
    ∷ entry (event.Step 9) (op.DoneOk 9 3) []
    ∷ entry (event.Step 9) (op.Reply 9 2 1) []
    ∷ entry (event.Step 9) (op.PublishOk 9 3) ((line.Tx (record { tx = 3; moment = 3; session = 2; k = 1; act = act.Set ((codes "x") ∷ []) (codes "2") (negsuc 0) })) ∷ [])
    ∷ entry (event.Step 9) (op.PutOk 9 3 ((codes "x") ∷ [])) []
    ∷ entry (event.Step 9) (op.SweepOk 9 3 0) []
    ∷ entry (event.Step 9) (op.PendingYes 9 3) []
    ∷ entry (event.Step 9) (op.CommitSettled 9 3 1) []
    ∷ entry event.Leader (op.Leader 9 3) []
    ∷ entry (event.Step 5) op.Idle []
    ∷ entry (event.Step 5) (op.AckOk 5) []
    ∷ entry (event.Step 5) (op.CommitOk 5 3) []
    ∷ entry (event.Step 5) (op.Push 5 3) []
    ∷ entry (event.Step 8) op.Idle []
    ∷ entry (event.Step 8) (op.AckGone 8) []
    ∷ entry (event.Step 7) op.Idle []
    ∷ entry (event.Step 7) (op.AckOk 7) []
    ∷ entry (event.Step 8) (op.DropMiss 8 2 2) []
    ∷ entry (event.Step 7) (op.DropOk 7 2) []
    ∷ entry (event.Step 8) (op.PendingNo 8 2) []
    ∷ entry (event.Step 7) (op.PendingNo 7 2) []
    ∷ entry (event.Step 8) (op.CommitLock 8 2 ((codes "x") ∷ []) 5 3) []
    ∷ entry (event.Step 7) (op.CommitLock 7 2 ((codes "x") ∷ []) 5 3) []
    ∷ entry event.Leader (op.Leader 8 2) []
    ∷ entry event.Leader (op.Leader 7 2) []
    ∷ entry (event.Fail 6) (op.Fault 6 word.Drop) []
    ∷ entry (event.Step 6) (op.PendingNo 6 2) []
    ∷ entry (event.Step 6) (op.CommitLock 6 2 ((codes "x") ∷ []) 5 3) []
    ∷ entry event.Leader (op.Leader 6 2) []
    ∷ entry (event.Step 5) (op.LockOk 5 ((codes "x") ∷ [])) []
    ∷ entry (event.Step 5) (op.SessionNew 5) []
    ∷ entry (event.Deliver 2) (op.Follower 5 2 1) []
    ∷ entry (event.Client 2) (op.Send 2 1 1) []
    ∷ entry (event.Clock 3) (op.Clock 3) []
    ∷ entry (event.Crash 3) (op.Crash 3) []
    ∷ entry (event.Step 3) (op.Push 3 2) []
    ∷ entry (event.Step 3) (op.LockOk 3 ((codes "x") ∷ [])) []
    ∷ entry (event.Step 3) (op.SessionNew 3) []
    ∷ entry (event.Deliver 1) (op.Follower 4 1 2) []
    ∷ entry (event.Deliver 1) (op.Follower 3 1 2) []
    ∷ entry (event.Client 1) (op.Send 1 2 2) []
    ∷ entry (event.Client 1) (op.LookOk 1 1 1) ((line.Reply 1 1 verb.Create (shown.Created 1 ((codes "x") ∷ []))) ∷ [])
    ∷ entry (event.Client 1) (op.TakeDone 1 1 1) []
    ∷ entry (event.Step 2) op.Idle []
    ∷ entry (event.Step 2) op.Idle []
    ∷ entry (event.Step 2) op.Idle []
    ∷ entry (event.Step 2) (op.AckOk 2) []
    ∷ entry (event.Step 2) (op.DoneOk 2 1) []
    ∷ entry (event.Step 2) (op.Reply 2 1 1) []
    ∷ entry (event.Step 2) (op.PublishOk 2 1) ((line.Tx (record { tx = 1; moment = 0; session = 1; k = 1; act = act.Create ((codes "x") ∷ []) (codes "0") false false })) ∷ [])
    ∷ entry (event.Step 2) (op.PutOk 2 1 ((codes "x") ∷ [])) []
    ∷ entry (event.Step 2) (op.PutOk 2 1 []) []
    ∷ entry (event.Step 2) (op.SweepOk 2 1 0) []
    ∷ entry (event.Step 2) (op.PendingYes 2 1) []
    ∷ entry (event.Step 2) (op.CommitSettled 2 1 1) []
    ∷ entry event.Leader (op.Leader 2 1) []
    ∷ entry (event.Step 1) op.Idle []
    ∷ entry (event.Step 1) (op.AckOk 1) []
    ∷ entry (event.Step 1) (op.CommitOk 1 1) []
    ∷ entry (event.Step 1) (op.Push 1 1) []
    ∷ entry (event.Step 1) (op.LockOk 1 ((codes "x") ∷ [])) []
    ∷ entry (event.Step 1) (op.LockOk 1 []) []
    ∷ entry (event.Step 1) (op.SessionNew 1) []
    ∷ entry (event.Deliver 1) (op.Follower 1 1 1) []
    ∷ entry (event.Client 1) (op.Send 1 1 1) []
    ∷ []

abbrev pub DroppedPushIsPlayed : Type 0
DroppedPushIsPlayed = IsPlayed deployed entries

-- its events are the deployment's turns and a last drain,
abbrev pub DroppedPushIsScheduled : Type 0
DroppedPushIsScheduled = Scheduled deployed entries

-- and all is answered
abbrev pub DroppedPushIsAnswered : Type 0
DroppedPushIsAnswered = Answered deployed entries
