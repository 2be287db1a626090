-- Heartbeats ping, are answered, and wait. Each entry is copied from the printed history of
-- the case `pings-and-pongs`.
use Rattle.std.specs.Prelude.{true, false, List, [], ◌∷◌, codes}
use Rattle.fk_base.specs.declared.code.Code.TheVariants as code
use Rattle.fk_print.specs.declared.entry.Entry.{Entry}
use Rattle.fk_print.specs.declared.event.Event.TheVariants as event
use Rattle.fk_print.specs.declared.line.Act.TheVariants as act
use Rattle.fk_print.specs.declared.line.Line.TheVariants as line
use Rattle.fk_print.specs.declared.line.Shown.TheVariants as shown
use Rattle.fk_print.specs.declared.line.Verb.TheVariants as verb
use Rattle.fk_print.specs.declared.op.Op.TheVariants as op
use Rattle.fk_print.specs.declared.op.Word.TheVariants as word
use Rattle.fk_script.specs.declared.command.Command.TheVariants as command
use Rattle.fk_script.specs.declared.deployment.Deployment.{Deployment}
use Rattle.fk_script.specs.declared.deployment.Turn.TheVariants as turn
use Rattle.fk_spec.specs.Scenarios.{entry}
use Rattle.fk_spec.specs.Schedule.{Answered, Scheduled}
use Rattle.fk_runs.specs.Playing.{IsPlayed}

abbrev pub deployed : Deployment
deployed = record { config = record { lock = 10; beat = 5 }; clients = (record { name = (codes "a"); commands = ((command.Create (codes "/x") (codes "0") false true true) ∷ []) } ∷ record { name = (codes "b"); commands = ((command.Create (codes "/y") (codes "0") false true true) ∷ []) } ∷ []); turns = ((turn.One (event.Client 1)) ∷ (turn.One (event.Deliver 1)) ∷ (turn.One (event.Step 1)) ∷ (turn.One (event.Step 1)) ∷ (turn.One (event.Step 1)) ∷ (turn.One (event.Step 1)) ∷ (turn.One (event.Step 1)) ∷ (turn.One (event.Step 1)) ∷ (turn.One (event.Step 1)) ∷ (turn.One event.Leader) ∷ (turn.One (event.Step 2)) ∷ (turn.One (event.Step 2)) ∷ (turn.One (event.Step 2)) ∷ (turn.One (event.Step 2)) ∷ (turn.One (event.Step 2)) ∷ (turn.One (event.Step 2)) ∷ (turn.One (event.Step 2)) ∷ (turn.One (event.Step 2)) ∷ (turn.One (event.Step 2)) ∷ (turn.One (event.Step 2)) ∷ (turn.One (event.Step 2)) ∷ (turn.One (event.Step 2)) ∷ (turn.One (event.Client 1)) ∷ (turn.One (event.Client 1)) ∷ (turn.One (event.Beat 1)) ∷ (turn.One (event.Beat 1)) ∷ (turn.One (event.Step 3)) ∷ (turn.One (event.Step 4)) ∷ (turn.One (event.Step 4)) ∷ (turn.One (event.Step 4)) ∷ (turn.One (event.Step 3)) ∷ (turn.One (event.Step 3)) ∷ (turn.One (event.Beat 2)) ∷ (turn.One (event.Step 5)) ∷ (turn.One (event.Step 5)) ∷ (turn.One (event.Step 5)) ∷ (turn.One (event.Client 2)) ∷ (turn.One (event.Client 2)) ∷ (turn.One (event.Beat 1)) ∷ (turn.One (event.Step 6)) ∷ (turn.One (event.Client 1)) ∷ (turn.One (event.Client 1)) ∷ (turn.One (event.Beat 1)) ∷ (turn.One (event.Step 7)) ∷ (turn.One (event.Client 1)) ∷ (turn.One (event.Client 1)) ∷ (turn.One (event.Beat 1)) ∷ (turn.One (event.Step 8)) ∷ (turn.One (event.Crash 8)) ∷ (turn.One (event.Beat 2)) ∷ (turn.One (event.Step 9)) ∷ (turn.One (event.Step 9)) ∷ (turn.One (event.Fail 9)) ∷ (turn.One (event.Clock 5)) ∷ (turn.One (event.Beat 2)) ∷ (turn.One (event.Step 10)) ∷ (turn.One (event.Clock 6)) ∷ (turn.One (event.Beat 2)) ∷ (turn.One (event.Step 11)) ∷ (turn.One (event.Step 11)) ∷ (turn.One (event.Step 11)) ∷ (turn.One (event.Clock 12)) ∷ (turn.One (event.Clock 3)) ∷ (turn.One (event.Crash 99)) ∷ (turn.One (event.Beat 2)) ∷ (turn.One (event.Step 12)) ∷ (turn.One (event.Beat 2)) ∷ (turn.One (event.Step 13)) ∷ (turn.One (event.Fail 13)) ∷ (turn.One (event.Beat 2)) ∷ (turn.One (event.Step 14)) ∷ (turn.One (event.Step 14)) ∷ (turn.One (event.Deliver 2)) ∷ (turn.One (event.Step 15)) ∷ (turn.One (event.Step 15)) ∷ (turn.One (event.Step 15)) ∷ (turn.One (event.Step 15)) ∷ (turn.One (event.Step 15)) ∷ (turn.One (event.Step 15)) ∷ (turn.One (event.Step 15)) ∷ (turn.One event.Leader) ∷ (turn.One (event.Step 16)) ∷ (turn.One (event.Step 16)) ∷ (turn.One (event.Step 16)) ∷ (turn.One (event.Step 16)) ∷ (turn.One (event.Step 16)) ∷ (turn.One (event.Step 16)) ∷ (turn.One (event.Step 16)) ∷ (turn.One (event.Step 16)) ∷ (turn.One (event.Step 16)) ∷ (turn.One (event.Step 16)) ∷ (turn.One (event.Step 16)) ∷ (turn.One (event.Step 16)) ∷ (turn.One (event.Client 2)) ∷ (turn.One (event.Beat 2)) ∷ (turn.One (event.Step 17)) ∷ (turn.One (event.FailClient 2)) ∷ []); scheduled = true }

-- the newest first
abbrev pub entries : List Entry
entries = entry (event.Client 2) (op.Local 2 1) ((line.Reply 2 1 verb.Create (shown.Refused code.SessionExpired 2 0)) ∷ [])
    ∷ entry (event.Client 2) (op.TakeEvicted 2 1 2) ((line.Expired 2 2) ∷ [])
    ∷ entry (event.Client 2) (op.Pong 2 11) []
    ∷ entry (event.Client 2) (op.TakePing 2 11) []
    ∷ entry (event.Client 2) (op.Pong 2 9) []
    ∷ entry (event.Clock 23) (op.Clock 23) []
    ∷ entry (event.Crash 12) (op.Crash 12) []
    ∷ entry (event.Crash 10) (op.Crash 10) []
    ∷ entry (event.Crash 7) (op.Crash 7) []
    ∷ entry (event.FailClient 2) (op.PongFault 2) []
    ∷ entry (event.Step 17) (op.ProbeClosed 17) []
    ∷ entry (event.Beat 2) (op.Beat 17 2) []
    ∷ entry (event.Client 2) (op.TakePing 2 9) []
    ∷ entry (event.Step 16) op.Idle []
    ∷ entry (event.Step 16) op.Idle []
    ∷ entry (event.Step 16) op.Idle []
    ∷ entry (event.Step 16) op.Idle []
    ∷ entry (event.Step 16) op.Idle []
    ∷ entry (event.Step 16) (op.AckOk 16) []
    ∷ entry (event.Step 16) (op.DoneOk 16 2) []
    ∷ entry (event.Step 16) (op.Reply 16 2 1) []
    ∷ entry (event.Step 16) (op.PublishOk 16 2) ((line.Tx (record { tx = 2; moment = 12; session = 2; k = 1; act = act.Close true [] })) ∷ [])
    ∷ entry (event.Step 16) (op.SweepOk 16 2 0) []
    ∷ entry (event.Step 16) (op.PendingYes 16 2) []
    ∷ entry (event.Step 16) (op.CommitSettled 16 2 1) []
    ∷ entry event.Leader (op.Leader 16 2) []
    ∷ entry (event.Step 15) op.Idle []
    ∷ entry (event.Step 15) op.Idle []
    ∷ entry (event.Step 15) (op.AckOk 15) []
    ∷ entry (event.Step 15) (op.CommitOk 15 2) []
    ∷ entry (event.Step 15) (op.Push 15 2) []
    ∷ entry (event.Step 15) (op.Owned 15 0) []
    ∷ entry (event.Step 15) (op.SessionNew 15) []
    ∷ entry (event.Deliver 2) (op.Follower 15 2 1) []
    ∷ entry (event.Step 14) (op.Evict 14 1) []
    ∷ entry (event.Step 14) (op.ProbeLate 14 11 6) []
    ∷ entry (event.Beat 2) (op.Beat 14 2) []
    ∷ entry (event.Fail 13) (op.Fault 13 word.Evict) []
    ∷ entry (event.Step 13) (op.ProbeLate 13 11 6) []
    ∷ entry (event.Beat 2) (op.Beat 13 2) []
    ∷ entry (event.Step 12) (op.ProbeLate 12 11 6) []
    ∷ entry (event.Beat 2) (op.Beat 12 2) []
    ∷ entry (event.Crash 99) op.Idle []
    ∷ entry (event.Clock 3) (op.Clock 12) []
    ∷ entry (event.Clock 12) (op.Clock 12) []
    ∷ entry (event.Step 11) (op.NoteOk 11) []
    ∷ entry (event.Step 11) (op.Ping 11 2) []
    ∷ entry (event.Step 11) (op.ProbeFresh 11) []
    ∷ entry (event.Beat 2) (op.Beat 11 2) []
    ∷ entry (event.Clock 6) (op.Clock 6) []
    ∷ entry (event.Step 10) (op.ProbeFresh 10) []
    ∷ entry (event.Beat 2) (op.Beat 10 2) []
    ∷ entry (event.Clock 5) (op.Clock 5) []
    ∷ entry (event.Fail 9) (op.Fault 9 word.Note) []
    ∷ entry (event.Step 9) (op.Ping 9 2) []
    ∷ entry (event.Step 9) (op.ProbeFresh 9) []
    ∷ entry (event.Beat 2) (op.Beat 9 2) []
    ∷ entry (event.Crash 8) (op.Crash 8) []
    ∷ entry (event.Step 8) (op.ProbeFresh 8) []
    ∷ entry (event.Beat 1) (op.Beat 8 1) []
    ∷ entry (event.Client 1) (op.Pong 1 3) []
    ∷ entry (event.Client 1) (op.TakePing 1 3) []
    ∷ entry (event.Step 7) (op.ProbeFresh 7) []
    ∷ entry (event.Beat 1) (op.Beat 7 1) []
    ∷ entry (event.Client 1) (op.Pong 1 4) []
    ∷ entry (event.Client 1) (op.TakePing 1 4) []
    ∷ entry (event.Step 6) (op.ProbeWaiting 6) []
    ∷ entry (event.Beat 1) (op.Beat 6 1) []
    ∷ entry (event.Client 2) (op.Pong 2 5) []
    ∷ entry (event.Client 2) (op.TakePing 2 5) []
    ∷ entry (event.Step 5) (op.NoteOk 5) []
    ∷ entry (event.Step 5) (op.Ping 5 2) []
    ∷ entry (event.Step 5) (op.ProbeFresh 5) []
    ∷ entry (event.Beat 2) (op.Beat 5 2) []
    ∷ entry (event.Step 3) (op.NoteMiss 3 4) []
    ∷ entry (event.Step 3) (op.Ping 3 1) []
    ∷ entry (event.Step 4) (op.NoteOk 4) []
    ∷ entry (event.Step 4) (op.Ping 4 1) []
    ∷ entry (event.Step 4) (op.ProbeFresh 4) []
    ∷ entry (event.Step 3) (op.ProbeFresh 3) []
    ∷ entry (event.Beat 1) (op.Beat 4 1) []
    ∷ entry (event.Beat 1) (op.Beat 3 1) []
    ∷ entry (event.Client 1) (op.LookOk 1 1 1) ((line.Reply 1 1 verb.Create (shown.Created 1 ((codes "x") ∷ []))) ∷ [])
    ∷ entry (event.Client 1) (op.TakeDone 1 1 1) []
    ∷ entry (event.Step 2) op.Idle []
    ∷ entry (event.Step 2) op.Idle []
    ∷ entry (event.Step 2) op.Idle []
    ∷ entry (event.Step 2) (op.AckOk 2) []
    ∷ entry (event.Step 2) (op.DoneOk 2 1) []
    ∷ entry (event.Step 2) (op.Reply 2 1 1) []
    ∷ entry (event.Step 2) (op.PublishOk 2 1) ((line.Tx (record { tx = 1; moment = 0; session = 1; k = 1; act = act.Create ((codes "x") ∷ []) (codes "0") false true })) ∷ [])
    ∷ entry (event.Step 2) (op.PutOk 2 1 ((codes "x") ∷ [])) []
    ∷ entry (event.Step 2) (op.PutOk 2 1 []) []
    ∷ entry (event.Step 2) (op.SweepOk 2 1 0) []
    ∷ entry (event.Step 2) (op.PendingYes 2 1) []
    ∷ entry (event.Step 2) (op.CommitSettled 2 1 1) []
    ∷ entry event.Leader (op.Leader 2 1) []
    ∷ entry (event.Step 1) op.Idle []
    ∷ entry (event.Step 1) (op.AckOk 1) []
    ∷ entry (event.Step 1) (op.CommitOk 1 1) []
    ∷ entry (event.Step 1) (op.Push 1 1) []
    ∷ entry (event.Step 1) (op.LockOk 1 ((codes "x") ∷ [])) []
    ∷ entry (event.Step 1) (op.LockOk 1 []) []
    ∷ entry (event.Step 1) (op.SessionNew 1) []
    ∷ entry (event.Deliver 1) (op.Follower 1 1 1) []
    ∷ entry (event.Client 1) (op.Send 1 1 1) []
    ∷ []

abbrev pub PingsAndPongsIsPlayed : Type 0
PingsAndPongsIsPlayed = IsPlayed deployed entries

-- its events are the deployment's turns and a last drain,
abbrev pub PingsAndPongsIsScheduled : Type 0
PingsAndPongsIsScheduled = Scheduled deployed entries

-- and all is answered
abbrev pub PingsAndPongsIsAnswered : Type 0
PingsAndPongsIsAnswered = Answered deployed entries
