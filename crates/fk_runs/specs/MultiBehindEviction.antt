-- A request of several parts that waits behind an eviction is refused as well. Each entry is copied from the printed history of
-- the case `requests-behind-an-eviction-with-a-multi`.
use Rattle.std.specs.Prelude.{negsuc, true, false, List, [], ◌∷◌, codes}
use Rattle.fk_base.specs.declared.code.Code.TheVariants as code
use Rattle.fk_print.specs.declared.entry.Entry.{Entry}
use Rattle.fk_print.specs.declared.event.Event.TheVariants as event
use Rattle.fk_print.specs.declared.line.Act.TheVariants as act
use Rattle.fk_print.specs.declared.line.Line.TheVariants as line
use Rattle.fk_print.specs.declared.line.Shown.TheVariants as shown
use Rattle.fk_print.specs.declared.line.Verb.TheVariants as verb
use Rattle.fk_print.specs.declared.op.Op.TheVariants as op
use Rattle.fk_print.specs.declared.op.Word.TheVariants as word
use Rattle.fk_script.specs.declared.command.Command.TheVariants as command
use Rattle.fk_script.specs.declared.command.PartCommand.TheVariants as part_command
use Rattle.fk_script.specs.declared.deployment.Deployment.{Deployment}
use Rattle.fk_script.specs.declared.deployment.Turn.TheVariants as turn
use Rattle.fk_spec.specs.Scenarios.{entry}
use Rattle.fk_spec.specs.Schedule.{Answered, Scheduled}
use Rattle.fk_runs.specs.Playing.{IsPlayed}

abbrev pub deployed : Deployment
deployed = record { config = record { lock = 10; beat = 1 }; clients = (record { name = (codes "a"); commands = ((command.Create (codes "/x") (codes "0") false true true) ∷ (command.Multi ((part_command.Set (codes "/x") (codes "1") (negsuc 0)) ∷ []) false) ∷ (command.Set (codes "/x") (codes "2") (negsuc 0) false) ∷ (command.Get (codes "/x") false) ∷ []) } ∷ record { name = (codes "b"); commands = ((command.Create (codes "/y") (codes "1") false true true) ∷ (command.Ls (codes "/") false) ∷ []) } ∷ []); turns = ((turn.One (event.Client 1)) ∷ (turn.One (event.Deliver 1)) ∷ (turn.One (event.Step 1)) ∷ (turn.One (event.Step 1)) ∷ (turn.One (event.Step 1)) ∷ (turn.One (event.Step 1)) ∷ (turn.One (event.Step 1)) ∷ (turn.One (event.Step 1)) ∷ (turn.One (event.Step 1)) ∷ (turn.One event.Leader) ∷ (turn.One (event.Step 2)) ∷ (turn.One (event.Step 2)) ∷ (turn.One (event.Step 2)) ∷ (turn.One (event.Step 2)) ∷ (turn.One (event.Step 2)) ∷ (turn.One (event.Step 2)) ∷ (turn.One (event.Step 2)) ∷ (turn.One (event.Step 2)) ∷ (turn.One (event.Step 2)) ∷ (turn.One (event.Step 2)) ∷ (turn.One (event.Step 2)) ∷ (turn.One (event.Step 2)) ∷ (turn.One (event.Client 1)) ∷ (turn.One (event.Client 1)) ∷ (turn.One (event.Client 2)) ∷ (turn.One (event.Deliver 2)) ∷ (turn.One (event.Step 3)) ∷ (turn.One (event.Step 3)) ∷ (turn.One (event.Step 3)) ∷ (turn.One (event.Step 3)) ∷ (turn.One (event.Step 3)) ∷ (turn.One (event.Step 3)) ∷ (turn.One (event.Step 3)) ∷ (turn.One event.Leader) ∷ (turn.One (event.Step 4)) ∷ (turn.One (event.Step 4)) ∷ (turn.One (event.Step 4)) ∷ (turn.One (event.Step 4)) ∷ (turn.One (event.Step 4)) ∷ (turn.One (event.Step 4)) ∷ (turn.One (event.Step 4)) ∷ (turn.One (event.Step 4)) ∷ (turn.One (event.Step 4)) ∷ (turn.One (event.Step 4)) ∷ (turn.One (event.Step 4)) ∷ (turn.One (event.Step 4)) ∷ (turn.One (event.Client 2)) ∷ (turn.One (event.Client 2)) ∷ (turn.One (event.Beat 1)) ∷ (turn.One (event.Step 5)) ∷ (turn.One (event.Step 5)) ∷ (turn.One (event.Step 5)) ∷ (turn.One (event.Clock 5)) ∷ (turn.One (event.Beat 1)) ∷ (turn.One (event.Step 6)) ∷ (turn.One (event.Step 6)) ∷ (turn.One (event.Client 1)) ∷ (turn.One (event.Client 1)) ∷ (turn.One (event.Client 1)) ∷ (turn.One (event.Client 1)) ∷ (turn.One (event.Client 1)) ∷ (turn.One (event.Deliver 1)) ∷ (turn.One (event.Step 7)) ∷ (turn.One (event.Fail 7)) ∷ (turn.One (event.Deliver 1)) ∷ (turn.One (event.Step 8)) ∷ (turn.One (event.Step 8)) ∷ (turn.One (event.Step 8)) ∷ (turn.One (event.Step 8)) ∷ (turn.One (event.Step 8)) ∷ (turn.One (event.Step 8)) ∷ (turn.One (event.Step 8)) ∷ (turn.One (event.Deliver 1)) ∷ (turn.One (event.Deliver 1)) ∷ (turn.One (event.Step 9)) ∷ (turn.One (event.Step 10)) ∷ (turn.One (event.Fail 9)) ∷ (turn.One (event.Deliver 1)) ∷ (turn.One (event.Step 11)) ∷ (turn.One (event.Step 11)) ∷ (turn.One (event.Step 10)) ∷ (turn.One (event.Step 10)) ∷ (turn.One (event.Step 10)) ∷ (turn.One (event.Step 11)) ∷ (turn.One (event.Step 11)) ∷ (turn.One (event.Step 11)) ∷ (turn.One (event.Deliver 1)) ∷ (turn.One (event.Step 12)) ∷ (turn.One (event.Step 12)) ∷ (turn.One (event.Fail 12)) ∷ (turn.One (event.Deliver 1)) ∷ (turn.One (event.Step 13)) ∷ (turn.One (event.Step 13)) ∷ (turn.One (event.Step 13)) ∷ (turn.One event.Leader) ∷ (turn.One (event.Step 14)) ∷ (turn.One (event.Step 14)) ∷ (turn.One (event.Step 14)) ∷ (turn.One (event.Step 14)) ∷ (turn.One (event.Step 14)) ∷ (turn.One (event.Step 14)) ∷ (turn.One (event.Step 14)) ∷ (turn.One (event.Step 14)) ∷ (turn.One (event.Step 14)) ∷ (turn.One (event.Step 14)) ∷ (turn.One (event.Step 14)) ∷ (turn.One (event.Step 14)) ∷ (turn.One (event.Client 1)) ∷ (turn.One (event.Client 1)) ∷ (turn.One (event.Client 1)) ∷ (turn.One (event.Client 1)) ∷ (turn.One (event.Client 1)) ∷ (turn.One (event.Client 1)) ∷ (turn.One (event.Client 1)) ∷ (turn.One (event.Client 1)) ∷ (turn.One (event.Client 2)) ∷ (turn.One (event.Client 2)) ∷ (turn.One (event.Client 2)) ∷ []); scheduled = true }

-- the newest first
abbrev pub entries : List Entry
entries = entry (event.Clock 16) (op.Clock 16) []
    ∷ entry (event.Crash 10) (op.Crash 10) []
    ∷ entry (event.Client 2) op.Idle []
    ∷ entry (event.Client 2) (op.LookOk 2 2 3) ((line.Reply 2 2 verb.Ls (shown.Listed 3 ((codes "y") ∷ []))) ∷ [])
    ∷ entry (event.Client 2) (op.Read 2 2 3) []
    ∷ entry (event.Client 1) op.Idle []
    ∷ entry (event.Client 1) (op.Local 1 4) ((line.Reply 1 4 verb.Get (shown.Refused code.SessionExpired 3 0)) ∷ [])
    ∷ entry (event.Client 1) (op.LookOk 1 3 3) ((line.Reply 1 3 verb.Set (shown.Refused code.SessionExpired 3 0)) ∷ [])
    ∷ entry (event.Client 1) (op.LookOk 1 2 3) ((line.Reply 1 2 verb.Multi (shown.Refused code.SessionExpired 3 0)) ∷ [])
    ∷ entry (event.Client 1) (op.TakeEvicted 1 2 3) ((line.Expired 1 3) ∷ [])
    ∷ entry (event.Client 1) (op.TakeRefused 1 4) []
    ∷ entry (event.Client 1) (op.TakeRefused 1 3) []
    ∷ entry (event.Client 1) (op.TakeRefused 1 3) []
    ∷ entry (event.Step 14) op.Idle []
    ∷ entry (event.Step 14) op.Idle []
    ∷ entry (event.Step 14) op.Idle []
    ∷ entry (event.Step 14) (op.AckOk 14) []
    ∷ entry (event.Step 14) (op.DoneOk 14 3) []
    ∷ entry (event.Step 14) (op.Reply 14 1 2) []
    ∷ entry (event.Step 14) (op.PublishOk 14 3) ((line.Tx (record { tx = 3; moment = 5; session = 1; k = 2; act = act.Close true (((codes "x") ∷ []) ∷ []) })) ∷ [])
    ∷ entry (event.Step 14) (op.PutOk 14 3 ((codes "x") ∷ [])) []
    ∷ entry (event.Step 14) (op.PutOk 14 3 []) []
    ∷ entry (event.Step 14) (op.SweepOk 14 3 0) []
    ∷ entry (event.Step 14) (op.PendingYes 14 3) []
    ∷ entry (event.Step 14) (op.CommitSettled 14 3 4) []
    ∷ entry event.Leader (op.Leader 14 3) []
    ∷ entry (event.Step 13) (op.AckOk 13) []
    ∷ entry (event.Step 13) (op.Reply 13 1 4) []
    ∷ entry (event.Step 13) (op.SessionRefused 13) []
    ∷ entry (event.Deliver 1) (op.Follower 13 1 4) []
    ∷ entry (event.Fail 12) (op.Fault 12 word.Reply) []
    ∷ entry (event.Step 12) (op.RefuseOk 12 code.SessionExpired 0 3) []
    ∷ entry (event.Step 12) (op.SessionClosed 12) []
    ∷ entry (event.Deliver 1) (op.Follower 12 1 4) []
    ∷ entry (event.Step 11) op.Idle []
    ∷ entry (event.Step 11) (op.AckOk 11) []
    ∷ entry (event.Step 11) (op.Reply 11 1 3) []
    ∷ entry (event.Step 10) (op.Reply 10 1 3) []
    ∷ entry (event.Step 10) (op.SessionRefused 10) []
    ∷ entry (event.Step 10) (op.RefuseSettled 10 code.SessionExpired 0 3 3) []
    ∷ entry (event.Step 11) (op.RefuseOk 11 code.SessionExpired 0 3) []
    ∷ entry (event.Step 11) (op.SessionClosed 11) []
    ∷ entry (event.Deliver 1) (op.Follower 11 1 3) []
    ∷ entry (event.Fail 9) (op.Fault 9 word.Refuse) []
    ∷ entry (event.Step 10) (op.SessionClosed 10) []
    ∷ entry (event.Step 9) (op.SessionClosed 9) []
    ∷ entry (event.Deliver 1) (op.Follower 10 1 3) []
    ∷ entry (event.Deliver 1) (op.Follower 9 1 3) []
    ∷ entry (event.Step 8) (op.AckOk 8) []
    ∷ entry (event.Step 8) (op.CommitOk 8 3) []
    ∷ entry (event.Step 8) (op.Push 8 3) []
    ∷ entry (event.Step 8) (op.LockOk 8 ((codes "x") ∷ [])) []
    ∷ entry (event.Step 8) (op.LockOk 8 []) []
    ∷ entry (event.Step 8) (op.Owned 8 1) []
    ∷ entry (event.Step 8) (op.SessionNew 8) []
    ∷ entry (event.Deliver 1) (op.Follower 8 1 2) []
    ∷ entry (event.Fail 7) (op.Fault 7 word.Owned) []
    ∷ entry (event.Step 7) (op.SessionNew 7) []
    ∷ entry (event.Deliver 1) (op.Follower 7 1 2) []
    ∷ entry (event.Client 1) op.Idle []
    ∷ entry (event.Client 1) (op.Send 1 3 4) []
    ∷ entry (event.Client 1) (op.Send 1 2 3) []
    ∷ entry (event.Client 1) (op.Pong 1 5) []
    ∷ entry (event.Client 1) (op.TakePing 1 5) []
    ∷ entry (event.Step 6) (op.Evict 6 2) []
    ∷ entry (event.Step 6) (op.ProbeLate 6 5 0) []
    ∷ entry (event.Beat 1) (op.Beat 6 1) []
    ∷ entry (event.Clock 5) (op.Clock 5) []
    ∷ entry (event.Step 5) (op.NoteOk 5) []
    ∷ entry (event.Step 5) (op.Ping 5 1) []
    ∷ entry (event.Step 5) (op.ProbeFresh 5) []
    ∷ entry (event.Beat 1) (op.Beat 5 1) []
    ∷ entry (event.Client 2) (op.LookOk 2 1 2) ((line.Reply 2 1 verb.Create (shown.Created 2 ((codes "y") ∷ []))) ∷ [])
    ∷ entry (event.Client 2) (op.TakeDone 2 1 2) []
    ∷ entry (event.Step 4) op.Idle []
    ∷ entry (event.Step 4) op.Idle []
    ∷ entry (event.Step 4) op.Idle []
    ∷ entry (event.Step 4) (op.AckOk 4) []
    ∷ entry (event.Step 4) (op.DoneOk 4 2) []
    ∷ entry (event.Step 4) (op.Reply 4 2 1) []
    ∷ entry (event.Step 4) (op.PublishOk 4 2) ((line.Tx (record { tx = 2; moment = 0; session = 2; k = 1; act = act.Create ((codes "y") ∷ []) (codes "1") false true })) ∷ [])
    ∷ entry (event.Step 4) (op.PutOk 4 2 ((codes "y") ∷ [])) []
    ∷ entry (event.Step 4) (op.PutOk 4 2 []) []
    ∷ entry (event.Step 4) (op.SweepOk 4 2 0) []
    ∷ entry (event.Step 4) (op.PendingYes 4 2) []
    ∷ entry (event.Step 4) (op.CommitSettled 4 2 1) []
    ∷ entry event.Leader (op.Leader 4 2) []
    ∷ entry (event.Step 3) op.Idle []
    ∷ entry (event.Step 3) (op.AckOk 3) []
    ∷ entry (event.Step 3) (op.CommitOk 3 2) []
    ∷ entry (event.Step 3) (op.Push 3 2) []
    ∷ entry (event.Step 3) (op.LockOk 3 ((codes "y") ∷ [])) []
    ∷ entry (event.Step 3) (op.LockOk 3 []) []
    ∷ entry (event.Step 3) (op.SessionNew 3) []
    ∷ entry (event.Deliver 2) (op.Follower 3 2 1) []
    ∷ entry (event.Client 2) (op.Send 2 1 1) []
    ∷ entry (event.Client 1) (op.LookOk 1 1 1) ((line.Reply 1 1 verb.Create (shown.Created 1 ((codes "x") ∷ []))) ∷ [])
    ∷ entry (event.Client 1) (op.TakeDone 1 1 1) []
    ∷ entry (event.Step 2) op.Idle []
    ∷ entry (event.Step 2) op.Idle []
    ∷ entry (event.Step 2) op.Idle []
    ∷ entry (event.Step 2) (op.AckOk 2) []
    ∷ entry (event.Step 2) (op.DoneOk 2 1) []
    ∷ entry (event.Step 2) (op.Reply 2 1 1) []
    ∷ entry (event.Step 2) (op.PublishOk 2 1) ((line.Tx (record { tx = 1; moment = 0; session = 1; k = 1; act = act.Create ((codes "x") ∷ []) (codes "0") false true })) ∷ [])
    ∷ entry (event.Step 2) (op.PutOk 2 1 ((codes "x") ∷ [])) []
    ∷ entry (event.Step 2) (op.PutOk 2 1 []) []
    ∷ entry (event.Step 2) (op.SweepOk 2 1 0) []
    ∷ entry (event.Step 2) (op.PendingYes 2 1) []
    ∷ entry (event.Step 2) (op.CommitSettled 2 1 1) []
    ∷ entry event.Leader (op.Leader 2 1) []
    ∷ entry (event.Step 1) op.Idle []
    ∷ entry (event.Step 1) (op.AckOk 1) []
    ∷ entry (event.Step 1) (op.CommitOk 1 1) []
    ∷ entry (event.Step 1) (op.Push 1 1) []
    ∷ entry (event.Step 1) (op.LockOk 1 ((codes "x") ∷ [])) []
    ∷ entry (event.Step 1) (op.LockOk 1 []) []
    ∷ entry (event.Step 1) (op.SessionNew 1) []
    ∷ entry (event.Deliver 1) (op.Follower 1 1 1) []
    ∷ entry (event.Client 1) (op.Send 1 1 1) []
    ∷ []

abbrev pub MultiBehindEvictionIsPlayed : Type 0
MultiBehindEvictionIsPlayed = IsPlayed deployed entries

-- its events are the deployment's turns and a last drain,
abbrev pub MultiBehindEvictionIsScheduled : Type 0
MultiBehindEvictionIsScheduled = Scheduled deployed entries

-- and all is answered
abbrev pub MultiBehindEvictionIsAnswered : Type 0
MultiBehindEvictionIsAnswered = Answered deployed entries
