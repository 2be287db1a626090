-- Two followers work on one message, and settle it once. Each entry is copied from the printed history of
-- the case `two-followers-settle-once`.
use Rattle.std.specs.Prelude.{pos, negsuc, true, false, List, [], ◌∷◌, codes}
use Rattle.fk_base.specs.declared.code.Code.TheVariants as code
use Rattle.fk_print.specs.declared.entry.Entry.{Entry}
use Rattle.fk_print.specs.declared.event.Event.TheVariants as event
use Rattle.fk_print.specs.declared.line.Act.TheVariants as act
use Rattle.fk_print.specs.declared.line.Line.TheVariants as line
use Rattle.fk_print.specs.declared.line.Shown.TheVariants as shown
use Rattle.fk_print.specs.declared.line.Verb.TheVariants as verb
use Rattle.fk_print.specs.declared.op.Op.TheVariants as op
use Rattle.fk_script.specs.declared.command.Command.TheVariants as command
use Rattle.fk_script.specs.declared.deployment.Deployment.{Deployment}
use Rattle.fk_script.specs.declared.deployment.Turn.TheVariants as turn
use Rattle.fk_spec.specs.Scenarios.{entry}
use Rattle.fk_spec.specs.Schedule.{Answered, Scheduled}
use Rattle.fk_runs.specs.Playing.{IsPlayed}

abbrev pub deployed : Deployment
deployed = record { config = record { lock = 1; beat = 30 }; clients = (record { name = (codes "a"); commands = ((command.Create (codes "/x") (codes "0") false false true) ∷ (command.Set (codes "/x") (codes "1") (pos 5) true) ∷ (command.Set (codes "/x") (codes "2") (negsuc 0) true) ∷ []) } ∷ record { name = (codes "b"); commands = ((command.Set (codes "/x") (codes "3") (negsuc 0) true) ∷ []) } ∷ []); turns = ((turn.One (event.Client 1)) ∷ (turn.One (event.Deliver 1)) ∷ (turn.One (event.Deliver 1)) ∷ (turn.One (event.Step 1)) ∷ (turn.One (event.Step 1)) ∷ (turn.One (event.Step 1)) ∷ (turn.One (event.Step 2)) ∷ (turn.One (event.Step 2)) ∷ (turn.One (event.Clock 2)) ∷ (turn.One (event.Step 2)) ∷ (turn.One (event.Step 2)) ∷ (turn.One (event.Step 2)) ∷ (turn.One (event.Step 2)) ∷ (turn.One (event.Step 2)) ∷ (turn.One (event.Step 2)) ∷ (turn.One (event.Step 2)) ∷ (turn.One (event.Step 1)) ∷ (turn.One (event.Step 1)) ∷ (turn.One (event.Step 1)) ∷ (turn.One (event.Step 1)) ∷ (turn.One (event.Step 1)) ∷ (turn.One (event.Step 1)) ∷ (turn.One (event.Step 1)) ∷ (turn.One (event.Step 1)) ∷ (turn.One event.Leader) ∷ (turn.One event.Leader) ∷ (turn.One (event.Step 3)) ∷ (turn.One (event.Step 4)) ∷ (turn.One (event.Step 4)) ∷ (turn.One (event.Step 4)) ∷ (turn.One (event.Step 4)) ∷ (turn.One (event.Step 4)) ∷ (turn.One (event.Step 4)) ∷ (turn.One (event.Step 4)) ∷ (turn.One (event.Step 4)) ∷ (turn.One (event.Step 4)) ∷ (turn.One (event.Step 4)) ∷ (turn.One (event.Step 4)) ∷ (turn.One (event.Step 4)) ∷ (turn.One (event.Step 3)) ∷ (turn.One (event.Step 3)) ∷ (turn.One (event.Step 3)) ∷ (turn.One (event.Step 3)) ∷ (turn.One (event.Step 3)) ∷ (turn.One (event.Step 3)) ∷ (turn.One (event.Step 3)) ∷ (turn.One (event.Step 3)) ∷ (turn.One (event.Step 3)) ∷ (turn.One (event.Step 3)) ∷ (turn.One (event.Step 3)) ∷ (turn.One (event.Step 3)) ∷ (turn.One (event.Client 1)) ∷ (turn.One (event.Client 1)) ∷ (turn.One (event.Client 1)) ∷ (turn.One (event.Deliver 1)) ∷ (turn.One (event.Deliver 1)) ∷ (turn.One (event.Step 5)) ∷ (turn.One (event.Step 6)) ∷ (turn.One (event.Clock 9)) ∷ (turn.One (event.Step 5)) ∷ (turn.One (event.Clock 20)) ∷ (turn.One (event.Step 6)) ∷ (turn.One (event.Clock 30)) ∷ (turn.One (event.Step 5)) ∷ (turn.One (event.Step 6)) ∷ (turn.One (event.Clock 41)) ∷ (turn.One (event.Step 6)) ∷ (turn.One (event.Step 5)) ∷ (turn.One (event.Step 5)) ∷ (turn.One (event.Step 5)) ∷ (turn.One (event.Step 5)) ∷ (turn.One (event.Step 6)) ∷ (turn.One (event.Step 6)) ∷ (turn.One (event.Step 6)) ∷ (turn.One (event.Step 6)) ∷ (turn.One (event.Step 6)) ∷ (turn.One (event.Step 6)) ∷ (turn.One (event.Client 1)) ∷ (turn.One (event.Client 1)) ∷ (turn.One (event.Client 1)) ∷ (turn.One (event.Deliver 1)) ∷ (turn.One (event.Deliver 1)) ∷ (turn.One (event.Step 7)) ∷ (turn.One (event.Step 7)) ∷ (turn.One (event.Step 7)) ∷ (turn.One (event.Clock 60)) ∷ (turn.One (event.Step 8)) ∷ (turn.One (event.Step 8)) ∷ (turn.One (event.Step 8)) ∷ (turn.One (event.Step 8)) ∷ (turn.One (event.Step 7)) ∷ (turn.One (event.Step 7)) ∷ (turn.One (event.Step 8)) ∷ (turn.One (event.Step 7)) ∷ (turn.One (event.Step 8)) ∷ (turn.One event.Leader) ∷ (turn.One (event.Step 9)) ∷ (turn.One (event.Step 9)) ∷ (turn.One event.Leader) ∷ (turn.One (event.Step 10)) ∷ (turn.One (event.Step 10)) ∷ (turn.One (event.Step 10)) ∷ (turn.One (event.Step 10)) ∷ (turn.One (event.Step 10)) ∷ (turn.One (event.Step 10)) ∷ (turn.One (event.Step 10)) ∷ (turn.One (event.Step 10)) ∷ (turn.One (event.Step 10)) ∷ (turn.One (event.Step 10)) ∷ (turn.One (event.Step 10)) ∷ (turn.One (event.Step 10)) ∷ (turn.One (event.Step 9)) ∷ (turn.One (event.Step 9)) ∷ (turn.One (event.Step 9)) ∷ (turn.One (event.Step 9)) ∷ (turn.One (event.Step 9)) ∷ (turn.One (event.Step 9)) ∷ (turn.One (event.Step 9)) ∷ (turn.One (event.Step 9)) ∷ (turn.One (event.Step 9)) ∷ (turn.One (event.Client 2)) ∷ (turn.One (event.Deliver 2)) ∷ (turn.One (event.Client 1)) ∷ (turn.One (event.Client 1)) ∷ (turn.One (event.Step 7)) ∷ (turn.One (event.Step 7)) ∷ (turn.One (event.Step 8)) ∷ []); scheduled = true }

-- the newest first
abbrev pub entries : List Entry
entries = entry (event.Client 2) (op.LookOk 2 1 4) ((line.Reply 2 1 verb.Set (shown.Version 4 2)) ∷ [])
    ∷ entry (event.Client 2) (op.TakeDone 2 1 4) []
    ∷ entry (event.Client 1) (op.LookOk 1 3 4) ((line.Reply 1 3 verb.Set (shown.Version 3 1)) ∷ [])
    ∷ entry (event.Client 1) (op.TakeDone 1 3 3) []
    ∷ entry (event.Step 14) (op.AckOk 14) []
    ∷ entry (event.Step 14) (op.DoneOk 14 4) []
    ∷ entry (event.Step 14) (op.Reply 14 2 1) []
    ∷ entry (event.Step 14) (op.PublishOk 14 4) ((line.Tx (record { tx = 4; moment = 62; session = 2; k = 1; act = act.Set ((codes "x") ∷ []) (codes "3") (negsuc 0) })) ∷ [])
    ∷ entry (event.Step 14) (op.PutOk 14 4 ((codes "x") ∷ [])) []
    ∷ entry (event.Step 14) (op.SweepOk 14 4 0) []
    ∷ entry (event.Step 14) (op.PendingYes 14 4) []
    ∷ entry (event.Step 14) (op.CommitSettled 14 4 1) []
    ∷ entry event.Leader (op.Leader 14 4) []
    ∷ entry (event.Step 13) (op.AckOk 13) []
    ∷ entry (event.Step 13) (op.CommitOk 13 4) []
    ∷ entry (event.Step 13) (op.Push 13 4) []
    ∷ entry (event.Step 13) (op.LockOk 13 ((codes "x") ∷ [])) []
    ∷ entry (event.Step 13) (op.SessionNew 13) []
    ∷ entry (event.Deliver 2) (op.Follower 13 2 1) []
    ∷ entry (event.Step 12) (op.AckOk 12) []
    ∷ entry (event.Step 12) (op.DoneOk 12 3) []
    ∷ entry (event.Step 12) (op.Reply 12 1 3) []
    ∷ entry (event.Step 12) (op.PublishOk 12 3) ((line.Tx (record { tx = 3; moment = 62; session = 1; k = 3; act = act.Set ((codes "x") ∷ []) (codes "2") (negsuc 0) })) ∷ [])
    ∷ entry (event.Step 12) (op.PutOk 12 3 ((codes "x") ∷ [])) []
    ∷ entry (event.Step 12) (op.SweepOk 12 3 0) []
    ∷ entry (event.Step 12) (op.PendingYes 12 3) []
    ∷ entry (event.Step 12) (op.CommitSettled 12 3 3) []
    ∷ entry event.Leader (op.Leader 12 3) []
    ∷ entry (event.Step 11) (op.AckOk 11) []
    ∷ entry (event.Step 11) (op.CommitOk 11 3) []
    ∷ entry (event.Step 11) (op.Push 11 3) []
    ∷ entry (event.Step 11) (op.LockOk 11 ((codes "x") ∷ [])) []
    ∷ entry (event.Step 11) (op.SessionNew 11) []
    ∷ entry (event.Deliver 1) (op.Follower 11 1 3) []
    ∷ entry (event.Step 10) (op.AckOk 10) []
    ∷ entry (event.Step 10) (op.DropOk 10 2) []
    ∷ entry (event.Step 10) (op.PendingNo 10 2) []
    ∷ entry (event.Step 10) (op.CommitSettled 10 2 2) []
    ∷ entry event.Leader (op.Leader 10 2) []
    ∷ entry (event.Clock 62) (op.Clock 62) []
    ∷ entry (event.Crash 9) (op.Crash 9) []
    ∷ entry (event.Crash 8) (op.Crash 8) []
    ∷ entry (event.Crash 7) (op.Crash 7) []
    ∷ entry (event.Step 8) (op.CommitSettled 8 2 2) []
    ∷ entry (event.Step 7) (op.PendingNo 7 2) []
    ∷ entry (event.Step 7) (op.CommitSettled 7 2 2) []
    ∷ entry (event.Client 1) op.Idle []
    ∷ entry (event.Client 1) (op.Send 1 3 3) []
    ∷ entry (event.Deliver 2) (op.Follower 9 2 1) []
    ∷ entry (event.Client 2) (op.Send 2 1 1) []
    ∷ entry (event.Step 9) op.Idle []
    ∷ entry (event.Step 9) op.Idle []
    ∷ entry (event.Step 9) op.Idle []
    ∷ entry (event.Step 9) op.Idle []
    ∷ entry (event.Step 9) op.Idle []
    ∷ entry (event.Step 9) op.Idle []
    ∷ entry (event.Step 9) op.Idle []
    ∷ entry (event.Step 9) op.Idle []
    ∷ entry (event.Step 9) op.Idle []
    ∷ entry (event.Step 10) op.Idle []
    ∷ entry (event.Step 10) op.Idle []
    ∷ entry (event.Step 10) op.Idle []
    ∷ entry (event.Step 10) op.Idle []
    ∷ entry (event.Step 10) op.Idle []
    ∷ entry (event.Step 10) op.Idle []
    ∷ entry (event.Step 10) op.Idle []
    ∷ entry (event.Step 10) op.Idle []
    ∷ entry (event.Step 10) op.Idle []
    ∷ entry (event.Step 10) op.Idle []
    ∷ entry (event.Step 10) op.Idle []
    ∷ entry (event.Step 10) op.Idle []
    ∷ entry event.Leader (op.Leader 8 2) []
    ∷ entry (event.Step 9) op.Idle []
    ∷ entry (event.Step 9) op.Idle []
    ∷ entry event.Leader (op.Leader 7 2) []
    ∷ entry (event.Step 8) op.Idle []
    ∷ entry (event.Step 7) op.Idle []
    ∷ entry (event.Step 8) op.Idle []
    ∷ entry (event.Step 7) op.Idle []
    ∷ entry (event.Step 7) op.Idle []
    ∷ entry (event.Step 8) op.Idle []
    ∷ entry (event.Step 8) op.Idle []
    ∷ entry (event.Step 8) op.Idle []
    ∷ entry (event.Step 8) op.Idle []
    ∷ entry (event.Clock 60) (op.Clock 60) []
    ∷ entry (event.Step 7) op.Idle []
    ∷ entry (event.Step 7) op.Idle []
    ∷ entry (event.Step 7) op.Idle []
    ∷ entry (event.Deliver 1) op.Idle []
    ∷ entry (event.Deliver 1) op.Idle []
    ∷ entry (event.Client 1) (op.LookOk 1 2 1) ((line.Reply 1 2 verb.Set (shown.Refused code.BadVersion 1 0)) ∷ [])
    ∷ entry (event.Client 1) (op.TakeRefused 1 2) []
    ∷ entry (event.Client 1) (op.TakeRefused 1 2) []
    ∷ entry (event.Step 6) op.Idle []
    ∷ entry (event.Step 6) op.Idle []
    ∷ entry (event.Step 6) op.Idle []
    ∷ entry (event.Step 6) op.Idle []
    ∷ entry (event.Step 6) op.Idle []
    ∷ entry (event.Step 6) (op.AckGone 6) []
    ∷ entry (event.Step 5) (op.AckOk 5) []
    ∷ entry (event.Step 5) (op.Reply 5 1 2) []
    ∷ entry (event.Step 5) (op.SessionRefused 5) []
    ∷ entry (event.Step 5) (op.LostSettled 5 2) []
    ∷ entry (event.Step 6) (op.Reply 6 1 2) []
    ∷ entry (event.Clock 41) (op.Clock 41) []
    ∷ entry (event.Step 6) (op.RefuseOk 6 code.BadVersion 0 1) []
    ∷ entry (event.Step 5) (op.RefuseLock 5 code.BadVersion 0 1 ((codes "x") ∷ []) 6 20) []
    ∷ entry (event.Clock 30) (op.Clock 30) []
    ∷ entry (event.Step 6) (op.LockOk 6 ((codes "x") ∷ [])) []
    ∷ entry (event.Clock 20) (op.Clock 20) []
    ∷ entry (event.Step 5) (op.LockOk 5 ((codes "x") ∷ [])) []
    ∷ entry (event.Clock 9) (op.Clock 9) []
    ∷ entry (event.Step 6) (op.SessionNew 6) []
    ∷ entry (event.Step 5) (op.SessionNew 5) []
    ∷ entry (event.Deliver 1) (op.Follower 6 1 2) []
    ∷ entry (event.Deliver 1) (op.Follower 5 1 2) []
    ∷ entry (event.Client 1) (op.Send 1 2 2) []
    ∷ entry (event.Client 1) (op.LookOk 1 1 1) ((line.Reply 1 1 verb.Create (shown.Created 1 ((codes "x") ∷ []))) ∷ [])
    ∷ entry (event.Client 1) (op.TakeDone 1 1 1) []
    ∷ entry (event.Step 3) op.Idle []
    ∷ entry (event.Step 3) op.Idle []
    ∷ entry (event.Step 3) op.Idle []
    ∷ entry (event.Step 3) op.Idle []
    ∷ entry (event.Step 3) op.Idle []
    ∷ entry (event.Step 3) op.Idle []
    ∷ entry (event.Step 3) op.Idle []
    ∷ entry (event.Step 3) op.Idle []
    ∷ entry (event.Step 3) op.Idle []
    ∷ entry (event.Step 3) (op.AckGone 3) []
    ∷ entry (event.Step 3) (op.DropMiss 3 1 1) []
    ∷ entry (event.Step 3) (op.PendingNo 3 1) []
    ∷ entry (event.Step 4) op.Idle []
    ∷ entry (event.Step 4) op.Idle []
    ∷ entry (event.Step 4) op.Idle []
    ∷ entry (event.Step 4) (op.AckOk 4) []
    ∷ entry (event.Step 4) (op.DoneOk 4 1) []
    ∷ entry (event.Step 4) (op.Reply 4 1 1) []
    ∷ entry (event.Step 4) (op.PublishOk 4 1) ((line.Tx (record { tx = 1; moment = 2; session = 1; k = 1; act = act.Create ((codes "x") ∷ []) (codes "0") false false })) ∷ [])
    ∷ entry (event.Step 4) (op.PutOk 4 1 ((codes "x") ∷ [])) []
    ∷ entry (event.Step 4) (op.PutOk 4 1 []) []
    ∷ entry (event.Step 4) (op.SweepOk 4 1 0) []
    ∷ entry (event.Step 4) (op.PendingYes 4 1) []
    ∷ entry (event.Step 4) (op.CommitSettled 4 1 1) []
    ∷ entry (event.Step 3) (op.CommitSettled 3 1 1) []
    ∷ entry event.Leader (op.Leader 4 1) []
    ∷ entry event.Leader (op.Leader 3 1) []
    ∷ entry (event.Step 1) op.Idle []
    ∷ entry (event.Step 1) op.Idle []
    ∷ entry (event.Step 1) op.Idle []
    ∷ entry (event.Step 1) op.Idle []
    ∷ entry (event.Step 1) (op.AckGone 1) []
    ∷ entry (event.Step 1) (op.SessionApplied 1) []
    ∷ entry (event.Step 1) (op.CommitSettled 1 2 1) []
    ∷ entry (event.Step 1) (op.Push 1 2) []
    ∷ entry (event.Step 2) op.Idle []
    ∷ entry (event.Step 2) op.Idle []
    ∷ entry (event.Step 2) (op.AckOk 2) []
    ∷ entry (event.Step 2) (op.CommitOk 2 1) []
    ∷ entry (event.Step 2) (op.Push 2 1) []
    ∷ entry (event.Step 2) (op.LockOk 2 ((codes "x") ∷ [])) []
    ∷ entry (event.Step 2) (op.LockOk 2 []) []
    ∷ entry (event.Clock 2) (op.Clock 2) []
    ∷ entry (event.Step 2) (op.LockBusy 2 [] 1 0) []
    ∷ entry (event.Step 2) (op.SessionNew 2) []
    ∷ entry (event.Step 1) (op.LockOk 1 ((codes "x") ∷ [])) []
    ∷ entry (event.Step 1) (op.LockOk 1 []) []
    ∷ entry (event.Step 1) (op.SessionNew 1) []
    ∷ entry (event.Deliver 1) (op.Follower 2 1 1) []
    ∷ entry (event.Deliver 1) (op.Follower 1 1 1) []
    ∷ entry (event.Client 1) (op.Send 1 1 1) []
    ∷ []

abbrev pub TwoFollowersIsPlayed : Type 0
TwoFollowersIsPlayed = IsPlayed deployed entries

-- its events are the deployment's turns and a last drain,
abbrev pub TwoFollowersIsScheduled : Type 0
TwoFollowersIsScheduled = Scheduled deployed entries

-- and all is answered
abbrev pub TwoFollowersIsAnswered : Type 0
TwoFollowersIsAnswered = Answered deployed entries
