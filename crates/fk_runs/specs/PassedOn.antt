-- A refusal whose lock passed on is answered as lost. Each entry is copied from the printed history of
-- the case `a-refusal-whose-lock-passed-on`.
use Rattle.std.specs.Prelude.{pos, negsuc, true, false, List, [], ◌∷◌, codes}
use Rattle.fk_base.specs.declared.code.Code.TheVariants as code
use Rattle.fk_tree.specs.declared.reply.PartReply.TheVariants as part_reply
use Rattle.fk_tree.specs.declared.request.Part.TheVariants as part
use Rattle.fk_print.specs.declared.entry.Entry.{Entry}
use Rattle.fk_print.specs.declared.event.Event.TheVariants as event
use Rattle.fk_print.specs.declared.line.Act.TheVariants as act
use Rattle.fk_print.specs.declared.line.Line.TheVariants as line
use Rattle.fk_print.specs.declared.line.Shown.TheVariants as shown
use Rattle.fk_print.specs.declared.line.Verb.TheVariants as verb
use Rattle.fk_print.specs.declared.op.Op.TheVariants as op
use Rattle.fk_print.specs.declared.op.Word.TheVariants as word
use Rattle.fk_script.specs.declared.command.Command.TheVariants as command
use Rattle.fk_script.specs.declared.command.PartCommand.TheVariants as part_command
use Rattle.fk_script.specs.declared.deployment.Deployment.{Deployment}
use Rattle.fk_script.specs.declared.deployment.Turn.TheVariants as turn
use Rattle.fk_spec.specs.Scenarios.{entry}
use Rattle.fk_spec.specs.Schedule.{Answered, Scheduled}
use Rattle.fk_runs.specs.Playing.{IsPlayed}

abbrev pub deployed : Deployment
deployed = record { config = record { lock = 2; beat = 30 }; clients = (record { name = (codes "a"); commands = ((command.Create (codes "/x") (codes "0") false false true) ∷ (command.Multi ((part_command.Set (codes "/x") (codes "2") (pos 7)) ∷ (part_command.Set (codes "/y") (codes "3") (negsuc 0)) ∷ []) true) ∷ []) } ∷ record { name = (codes "b"); commands = ((command.Create (codes "/y") (codes "1") false false true) ∷ (command.Multi ((part_command.Set (codes "/x") (codes "9") (negsuc 0)) ∷ (part_command.Set (codes "/y") (codes "9") (negsuc 0)) ∷ []) true) ∷ []) } ∷ []); turns = ((turn.One (event.Client 1)) ∷ (turn.One (event.Deliver 1)) ∷ (turn.One (event.Step 1)) ∷ (turn.One (event.Step 1)) ∷ (turn.One (event.Step 1)) ∷ (turn.One (event.Step 1)) ∷ (turn.One (event.Step 1)) ∷ (turn.One (event.Step 1)) ∷ (turn.One (event.Step 1)) ∷ (turn.One event.Leader) ∷ (turn.One (event.Step 2)) ∷ (turn.One (event.Step 2)) ∷ (turn.One (event.Step 2)) ∷ (turn.One (event.Step 2)) ∷ (turn.One (event.Step 2)) ∷ (turn.One (event.Step 2)) ∷ (turn.One (event.Step 2)) ∷ (turn.One (event.Step 2)) ∷ (turn.One (event.Step 2)) ∷ (turn.One (event.Step 2)) ∷ (turn.One (event.Step 2)) ∷ (turn.One (event.Step 2)) ∷ (turn.One (event.Client 1)) ∷ (turn.One (event.Client 1)) ∷ (turn.One (event.Client 2)) ∷ (turn.One (event.Deliver 2)) ∷ (turn.One (event.Step 3)) ∷ (turn.One (event.Step 3)) ∷ (turn.One (event.Step 3)) ∷ (turn.One (event.Step 3)) ∷ (turn.One (event.Step 3)) ∷ (turn.One (event.Step 3)) ∷ (turn.One (event.Step 3)) ∷ (turn.One event.Leader) ∷ (turn.One (event.Step 4)) ∷ (turn.One (event.Step 4)) ∷ (turn.One (event.Step 4)) ∷ (turn.One (event.Step 4)) ∷ (turn.One (event.Step 4)) ∷ (turn.One (event.Step 4)) ∷ (turn.One (event.Step 4)) ∷ (turn.One (event.Step 4)) ∷ (turn.One (event.Step 4)) ∷ (turn.One (event.Step 4)) ∷ (turn.One (event.Step 4)) ∷ (turn.One (event.Step 4)) ∷ (turn.One (event.Client 2)) ∷ (turn.One (event.Client 2)) ∷ (turn.One (event.Client 1)) ∷ (turn.One (event.Deliver 1)) ∷ (turn.One (event.Step 5)) ∷ (turn.One (event.Step 5)) ∷ (turn.One (event.Clock 1)) ∷ (turn.One (event.Step 5)) ∷ (turn.One (event.Client 2)) ∷ (turn.One (event.Deliver 2)) ∷ (turn.One (event.Step 6)) ∷ (turn.One (event.Clock 2)) ∷ (turn.One (event.Step 6)) ∷ (turn.One (event.Clock 4)) ∷ (turn.One (event.Step 6)) ∷ (turn.One (event.Step 6)) ∷ (turn.One (event.Step 5)) ∷ (turn.One (event.Fail 5)) ∷ (turn.One (event.Deliver 1)) ∷ (turn.One (event.Step 7)) ∷ (turn.One (event.Clock 9)) ∷ (turn.One (event.Step 7)) ∷ (turn.One (event.Clock 10)) ∷ (turn.One (event.Step 7)) ∷ (turn.One (event.Clock 13)) ∷ (turn.One (event.Step 6)) ∷ (turn.One (event.Deliver 2)) ∷ (turn.One (event.Step 8)) ∷ (turn.One (event.Clock 20)) ∷ (turn.One (event.Step 8)) ∷ (turn.One (event.Step 8)) ∷ (turn.One (event.Step 7)) ∷ (turn.One (event.Step 7)) ∷ (turn.One (event.Step 7)) ∷ (turn.One (event.Step 7)) ∷ (turn.One (event.Client 1)) ∷ (turn.One (event.Client 1)) ∷ (turn.One (event.Step 8)) ∷ (turn.One (event.Step 8)) ∷ (turn.One (event.Step 8)) ∷ (turn.One (event.Step 8)) ∷ []); scheduled = true }

-- the newest first
abbrev pub entries : List Entry
entries = entry (event.Client 2) (op.LookOk 2 2 4) ((line.Reply 2 2 verb.Multi (shown.Multi 4 ((part_reply.Version 1) ∷ (part_reply.Version 1) ∷ []))) ∷ [])
    ∷ entry (event.Client 2) (op.TakeDone 2 2 4) []
    ∷ entry (event.Step 10) (op.AckOk 10) []
    ∷ entry (event.Step 10) (op.DoneOk 10 4) []
    ∷ entry (event.Step 10) (op.Reply 10 2 2) []
    ∷ entry (event.Step 10) (op.PublishOk 10 4) ((line.Tx (record { tx = 4; moment = 20; session = 2; k = 2; act = act.Multi ((part.Set ((codes "x") ∷ []) (codes "9") (negsuc 0)) ∷ (part.Set ((codes "y") ∷ []) (codes "9") (negsuc 0)) ∷ []) })) ∷ [])
    ∷ entry (event.Step 10) (op.PutOk 10 4 ((codes "y") ∷ [])) []
    ∷ entry (event.Step 10) (op.PutOk 10 4 ((codes "x") ∷ [])) []
    ∷ entry (event.Step 10) (op.SweepOk 10 4 0) []
    ∷ entry (event.Step 10) (op.PendingYes 10 4) []
    ∷ entry (event.Step 10) (op.CommitSettled 10 4 2) []
    ∷ entry event.Leader (op.Leader 10 4) []
    ∷ entry (event.Step 9) (op.AckOk 9) []
    ∷ entry (event.Step 9) (op.DropOk 9 3) []
    ∷ entry (event.Step 9) (op.PendingNo 9 3) []
    ∷ entry (event.Step 9) (op.CommitSettled 9 3 2) []
    ∷ entry event.Leader (op.Leader 9 3) []
    ∷ entry (event.Clock 23) (op.Clock 23) []
    ∷ entry (event.Crash 6) (op.Crash 6) []
    ∷ entry (event.Step 8) op.Idle []
    ∷ entry (event.Step 8) (op.AckOk 8) []
    ∷ entry (event.Step 8) (op.CommitOk 8 4) []
    ∷ entry (event.Step 8) (op.Push 8 4) []
    ∷ entry (event.Client 1) op.Idle []
    ∷ entry (event.Client 1) (op.TakeLost 1 2) ((line.Reply 1 2 verb.Multi (shown.Lost ((codes "x") ∷ []) 9 8 20)) ∷ [])
    ∷ entry (event.Step 7) (op.AckOk 7) []
    ∷ entry (event.Step 7) (op.Reply 7 1 2) []
    ∷ entry (event.Step 7) (op.LostOk 7) []
    ∷ entry (event.Step 7) (op.RefuseLock 7 code.BadVersion 1 2 ((codes "x") ∷ []) 8 20) []
    ∷ entry (event.Step 8) (op.LockOk 8 ((codes "y") ∷ [])) []
    ∷ entry (event.Step 8) (op.LockOk 8 ((codes "x") ∷ [])) []
    ∷ entry (event.Clock 20) (op.Clock 20) []
    ∷ entry (event.Step 8) (op.SessionNew 8) []
    ∷ entry (event.Deliver 2) (op.Follower 8 2 2) []
    ∷ entry (event.Step 6) (op.Push 6 3) []
    ∷ entry (event.Clock 13) (op.Clock 13) []
    ∷ entry (event.Step 7) (op.LockOk 7 ((codes "y") ∷ [])) []
    ∷ entry (event.Clock 10) (op.Clock 10) []
    ∷ entry (event.Step 7) (op.LockOk 7 ((codes "x") ∷ [])) []
    ∷ entry (event.Clock 9) (op.Clock 9) []
    ∷ entry (event.Step 7) (op.SessionNew 7) []
    ∷ entry (event.Deliver 1) (op.Follower 7 1 2) []
    ∷ entry (event.Fail 5) (op.Fault 5 word.Lost) []
    ∷ entry (event.Step 5) (op.RefuseLock 5 code.BadVersion 1 2 ((codes "x") ∷ []) 6 4) []
    ∷ entry (event.Step 6) (op.LockOk 6 ((codes "y") ∷ [])) []
    ∷ entry (event.Step 6) (op.LockOk 6 ((codes "x") ∷ [])) []
    ∷ entry (event.Clock 4) (op.Clock 4) []
    ∷ entry (event.Step 6) (op.LockBusy 6 ((codes "x") ∷ []) 5 0) []
    ∷ entry (event.Clock 2) (op.Clock 2) []
    ∷ entry (event.Step 6) (op.SessionNew 6) []
    ∷ entry (event.Deliver 2) (op.Follower 6 2 2) []
    ∷ entry (event.Client 2) (op.Send 2 2 2) []
    ∷ entry (event.Step 5) (op.LockOk 5 ((codes "y") ∷ [])) []
    ∷ entry (event.Clock 1) (op.Clock 1) []
    ∷ entry (event.Step 5) (op.LockOk 5 ((codes "x") ∷ [])) []
    ∷ entry (event.Step 5) (op.SessionNew 5) []
    ∷ entry (event.Deliver 1) (op.Follower 5 1 2) []
    ∷ entry (event.Client 1) (op.Send 1 2 2) []
    ∷ entry (event.Client 2) (op.LookOk 2 1 2) ((line.Reply 2 1 verb.Create (shown.Created 2 ((codes "y") ∷ []))) ∷ [])
    ∷ entry (event.Client 2) (op.TakeDone 2 1 2) []
    ∷ entry (event.Step 4) op.Idle []
    ∷ entry (event.Step 4) op.Idle []
    ∷ entry (event.Step 4) op.Idle []
    ∷ entry (event.Step 4) (op.AckOk 4) []
    ∷ entry (event.Step 4) (op.DoneOk 4 2) []
    ∷ entry (event.Step 4) (op.Reply 4 2 1) []
    ∷ entry (event.Step 4) (op.PublishOk 4 2) ((line.Tx (record { tx = 2; moment = 0; session = 2; k = 1; act = act.Create ((codes "y") ∷ []) (codes "1") false false })) ∷ [])
    ∷ entry (event.Step 4) (op.PutOk 4 2 ((codes "y") ∷ [])) []
    ∷ entry (event.Step 4) (op.PutOk 4 2 []) []
    ∷ entry (event.Step 4) (op.SweepOk 4 2 0) []
    ∷ entry (event.Step 4) (op.PendingYes 4 2) []
    ∷ entry (event.Step 4) (op.CommitSettled 4 2 1) []
    ∷ entry event.Leader (op.Leader 4 2) []
    ∷ entry (event.Step 3) op.Idle []
    ∷ entry (event.Step 3) (op.AckOk 3) []
    ∷ entry (event.Step 3) (op.CommitOk 3 2) []
    ∷ entry (event.Step 3) (op.Push 3 2) []
    ∷ entry (event.Step 3) (op.LockOk 3 ((codes "y") ∷ [])) []
    ∷ entry (event.Step 3) (op.LockOk 3 []) []
    ∷ entry (event.Step 3) (op.SessionNew 3) []
    ∷ entry (event.Deliver 2) (op.Follower 3 2 1) []
    ∷ entry (event.Client 2) (op.Send 2 1 1) []
    ∷ entry (event.Client 1) (op.LookOk 1 1 1) ((line.Reply 1 1 verb.Create (shown.Created 1 ((codes "x") ∷ []))) ∷ [])
    ∷ entry (event.Client 1) (op.TakeDone 1 1 1) []
    ∷ entry (event.Step 2) op.Idle []
    ∷ entry (event.Step 2) op.Idle []
    ∷ entry (event.Step 2) op.Idle []
    ∷ entry (event.Step 2) (op.AckOk 2) []
    ∷ entry (event.Step 2) (op.DoneOk 2 1) []
    ∷ entry (event.Step 2) (op.Reply 2 1 1) []
    ∷ entry (event.Step 2) (op.PublishOk 2 1) ((line.Tx (record { tx = 1; moment = 0; session = 1; k = 1; act = act.Create ((codes "x") ∷ []) (codes "0") false false })) ∷ [])
    ∷ entry (event.Step 2) (op.PutOk 2 1 ((codes "x") ∷ [])) []
    ∷ entry (event.Step 2) (op.PutOk 2 1 []) []
    ∷ entry (event.Step 2) (op.SweepOk 2 1 0) []
    ∷ entry (event.Step 2) (op.PendingYes 2 1) []
    ∷ entry (event.Step 2) (op.CommitSettled 2 1 1) []
    ∷ entry event.Leader (op.Leader 2 1) []
    ∷ entry (event.Step 1) op.Idle []
    ∷ entry (event.Step 1) (op.AckOk 1) []
    ∷ entry (event.Step 1) (op.CommitOk 1 1) []
    ∷ entry (event.Step 1) (op.Push 1 1) []
    ∷ entry (event.Step 1) (op.LockOk 1 ((codes "x") ∷ [])) []
    ∷ entry (event.Step 1) (op.LockOk 1 []) []
    ∷ entry (event.Step 1) (op.SessionNew 1) []
    ∷ entry (event.Deliver 1) (op.Follower 1 1 1) []
    ∷ entry (event.Client 1) (op.Send 1 1 1) []
    ∷ []

abbrev pub PassedOnIsPlayed : Type 0
PassedOnIsPlayed = IsPlayed deployed entries

-- its events are the deployment's turns and a last drain,
abbrev pub PassedOnIsScheduled : Type 0
PassedOnIsScheduled = Scheduled deployed entries

-- and all is answered
abbrev pub PassedOnIsAnswered : Type 0
PassedOnIsAnswered = Answered deployed entries
