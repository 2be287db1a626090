-- Messages come to a client after the end of its session. Each entry is copied from the printed history of
-- the case `messages-after-the-end`.
use Rattle.std.specs.Prelude.{negsuc, true, false, List, [], ◌∷◌, codes}
use Rattle.fk_base.specs.declared.code.Code.TheVariants as code
use Rattle.fk_print.specs.declared.entry.Entry.{Entry}
use Rattle.fk_print.specs.declared.event.Event.TheVariants as event
use Rattle.fk_print.specs.declared.line.Act.TheVariants as act
use Rattle.fk_print.specs.declared.line.Line.TheVariants as line
use Rattle.fk_print.specs.declared.line.Shown.TheVariants as shown
use Rattle.fk_print.specs.declared.line.Verb.TheVariants as verb
use Rattle.fk_print.specs.declared.op.Op.TheVariants as op
use Rattle.fk_script.specs.declared.command.Command.TheVariants as command
use Rattle.fk_script.specs.declared.deployment.Deployment.{Deployment}
use Rattle.fk_script.specs.declared.deployment.Turn.TheVariants as turn
use Rattle.fk_spec.specs.Scenarios.{entry}
use Rattle.fk_spec.specs.Schedule.{Answered, Scheduled}
use Rattle.fk_runs.specs.Playing.{IsPlayed}

abbrev pub deployed : Deployment
deployed = record { config = record { lock = 10; beat = 5 }; clients = (record { name = (codes "a"); commands = ((command.Create (codes "/x") (codes "0") false true true) ∷ (command.Stat (codes "/z") true) ∷ (command.Get (codes "/x") false) ∷ []) } ∷ record { name = (codes "b"); commands = ((command.Create (codes "/z") (codes "1") false false true) ∷ (command.Get (codes "/z") true) ∷ (command.Close) ∷ []) } ∷ record { name = (codes "c"); commands = ((command.Set (codes "/z") (codes "2") (negsuc 0) true) ∷ []) } ∷ []); turns = ((turn.One (event.Client 1)) ∷ (turn.One (event.Deliver 1)) ∷ (turn.One (event.Step 1)) ∷ (turn.One (event.Step 1)) ∷ (turn.One (event.Step 1)) ∷ (turn.One (event.Step 1)) ∷ (turn.One (event.Step 1)) ∷ (turn.One (event.Step 1)) ∷ (turn.One (event.Step 1)) ∷ (turn.One event.Leader) ∷ (turn.One (event.Step 2)) ∷ (turn.One (event.Step 2)) ∷ (turn.One (event.Step 2)) ∷ (turn.One (event.Step 2)) ∷ (turn.One (event.Step 2)) ∷ (turn.One (event.Step 2)) ∷ (turn.One (event.Step 2)) ∷ (turn.One (event.Step 2)) ∷ (turn.One (event.Step 2)) ∷ (turn.One (event.Step 2)) ∷ (turn.One (event.Step 2)) ∷ (turn.One (event.Step 2)) ∷ (turn.One (event.Client 1)) ∷ (turn.One (event.Client 1)) ∷ (turn.One (event.Client 1)) ∷ (turn.One (event.Client 1)) ∷ (turn.One (event.Client 1)) ∷ (turn.One (event.Beat 1)) ∷ (turn.One (event.Beat 1)) ∷ (turn.One (event.Step 3)) ∷ (turn.One (event.Step 4)) ∷ (turn.One (event.Step 3)) ∷ (turn.One (event.Step 3)) ∷ (turn.One (event.Clock 10)) ∷ (turn.One (event.Beat 1)) ∷ (turn.One (event.Step 5)) ∷ (turn.One (event.Step 5)) ∷ (turn.One (event.Deliver 1)) ∷ (turn.One (event.Step 6)) ∷ (turn.One (event.Step 6)) ∷ (turn.One (event.Step 6)) ∷ (turn.One (event.Step 6)) ∷ (turn.One (event.Step 6)) ∷ (turn.One (event.Step 6)) ∷ (turn.One (event.Step 6)) ∷ (turn.One event.Leader) ∷ (turn.One event.Leader) ∷ (turn.One (event.Step 7)) ∷ (turn.One (event.Step 7)) ∷ (turn.One (event.Step 7)) ∷ (turn.One (event.Step 7)) ∷ (turn.One (event.Step 7)) ∷ (turn.One (event.Step 8)) ∷ (turn.One (event.Step 8)) ∷ (turn.One (event.Step 8)) ∷ (turn.One (event.Step 8)) ∷ (turn.One (event.Step 8)) ∷ (turn.One (event.Step 7)) ∷ (turn.One (event.Step 7)) ∷ (turn.One (event.Step 7)) ∷ (turn.One (event.Step 7)) ∷ (turn.One (event.Step 8)) ∷ (turn.One (event.Step 8)) ∷ (turn.One (event.Step 8)) ∷ (turn.One (event.Step 8)) ∷ (turn.One (event.Step 4)) ∷ (turn.One (event.Step 4)) ∷ (turn.One (event.Client 1)) ∷ (turn.One (event.Client 1)) ∷ (turn.One (event.Client 1)) ∷ (turn.One (event.Client 1)) ∷ (turn.One (event.Client 1)) ∷ (turn.One (event.Client 1)) ∷ (turn.One (event.Client 2)) ∷ (turn.One (event.Deliver 2)) ∷ (turn.One (event.Step 9)) ∷ (turn.One (event.Step 9)) ∷ (turn.One (event.Step 9)) ∷ (turn.One (event.Step 9)) ∷ (turn.One (event.Step 9)) ∷ (turn.One (event.Step 9)) ∷ (turn.One (event.Step 9)) ∷ (turn.One event.Leader) ∷ (turn.One (event.Step 10)) ∷ (turn.One (event.Step 10)) ∷ (turn.One (event.Step 10)) ∷ (turn.One (event.Step 10)) ∷ (turn.One (event.Step 10)) ∷ (turn.One (event.Step 10)) ∷ (turn.One (event.Step 10)) ∷ (turn.One (event.Step 10)) ∷ (turn.One (event.Step 10)) ∷ (turn.One (event.Step 10)) ∷ (turn.One (event.Step 10)) ∷ (turn.One (event.Step 10)) ∷ (turn.One event.Watch) ∷ (turn.One (event.Step 11)) ∷ (turn.One (event.Step 11)) ∷ (turn.One (event.Step 11)) ∷ (turn.One (event.Step 11)) ∷ (turn.One (event.Client 1)) ∷ (turn.One (event.Client 1)) ∷ (turn.One (event.Client 2)) ∷ (turn.One (event.Client 2)) ∷ (turn.One (event.Client 2)) ∷ (turn.One (event.Client 2)) ∷ (turn.One (event.Client 2)) ∷ (turn.One (event.Client 2)) ∷ (turn.One (event.Deliver 2)) ∷ (turn.One (event.Step 12)) ∷ (turn.One (event.Step 12)) ∷ (turn.One (event.Step 12)) ∷ (turn.One (event.Step 12)) ∷ (turn.One (event.Step 12)) ∷ (turn.One (event.Step 12)) ∷ (turn.One (event.Step 12)) ∷ (turn.One event.Leader) ∷ (turn.One (event.Step 13)) ∷ (turn.One (event.Step 13)) ∷ (turn.One (event.Step 13)) ∷ (turn.One (event.Step 13)) ∷ (turn.One (event.Step 13)) ∷ (turn.One (event.Step 13)) ∷ (turn.One (event.Step 13)) ∷ (turn.One (event.Step 13)) ∷ (turn.One (event.Step 13)) ∷ (turn.One (event.Step 13)) ∷ (turn.One (event.Step 13)) ∷ (turn.One (event.Step 13)) ∷ (turn.One (event.Client 2)) ∷ (turn.One (event.Client 2)) ∷ (turn.One (event.Client 2)) ∷ (turn.One (event.Client 3)) ∷ (turn.One (event.Deliver 3)) ∷ (turn.One (event.Step 14)) ∷ (turn.One (event.Step 14)) ∷ (turn.One (event.Step 14)) ∷ (turn.One (event.Step 14)) ∷ (turn.One (event.Step 14)) ∷ (turn.One (event.Step 14)) ∷ (turn.One (event.Step 14)) ∷ (turn.One event.Leader) ∷ (turn.One (event.Step 15)) ∷ (turn.One (event.Step 15)) ∷ (turn.One (event.Step 15)) ∷ (turn.One (event.Step 15)) ∷ (turn.One (event.Step 15)) ∷ (turn.One (event.Step 15)) ∷ (turn.One (event.Step 15)) ∷ (turn.One (event.Step 15)) ∷ (turn.One (event.Step 15)) ∷ (turn.One (event.Step 15)) ∷ (turn.One (event.Step 15)) ∷ (turn.One (event.Step 15)) ∷ (turn.One event.Watch) ∷ (turn.One (event.Step 16)) ∷ (turn.One (event.Step 16)) ∷ (turn.One (event.Step 16)) ∷ (turn.One (event.Step 16)) ∷ (turn.One (event.Client 2)) ∷ (turn.One (event.Client 2)) ∷ (turn.One (event.Client 3)) ∷ (turn.One (event.Client 3)) ∷ (turn.One (event.Client 3)) ∷ []); scheduled = true }

-- the newest first
abbrev pub entries : List Entry
entries = entry (event.Clock 21) (op.Clock 21) []
    ∷ entry (event.Client 3) op.Idle []
    ∷ entry (event.Client 3) (op.LookOk 3 1 5) ((line.Reply 3 1 verb.Set (shown.Version 5 1)) ∷ [])
    ∷ entry (event.Client 3) (op.TakeDone 3 1 5) []
    ∷ entry (event.Client 2) op.Idle []
    ∷ entry (event.Client 2) (op.TakeWatch 2 2) []
    ∷ entry (event.Step 16) op.Idle []
    ∷ entry (event.Step 16) (op.AckOk 16) []
    ∷ entry (event.Step 16) (op.Told 16 5) []
    ∷ entry (event.Step 16) (op.Tell 16 2 2) []
    ∷ entry event.Watch (op.Teller 16 2) []
    ∷ entry (event.Step 15) op.Idle []
    ∷ entry (event.Step 15) op.Idle []
    ∷ entry (event.Step 15) op.Idle []
    ∷ entry (event.Step 15) (op.AckOk 15) []
    ∷ entry (event.Step 15) (op.DoneOk 15 5) []
    ∷ entry (event.Step 15) (op.Reply 15 3 1) []
    ∷ entry (event.Step 15) (op.Notify 15 5 2) []
    ∷ entry (event.Step 15) (op.PublishOk 15 5) ((line.Tx (record { tx = 5; moment = 10; session = 3; k = 1; act = act.Set ((codes "z") ∷ []) (codes "2") (negsuc 0) })) ∷ [])
    ∷ entry (event.Step 15) (op.PutOk 15 5 ((codes "z") ∷ [])) []
    ∷ entry (event.Step 15) (op.SweepOk 15 5 1) []
    ∷ entry (event.Step 15) (op.PendingYes 15 5) []
    ∷ entry (event.Step 15) (op.CommitSettled 15 5 1) []
    ∷ entry event.Leader (op.Leader 15 5) []
    ∷ entry (event.Step 14) op.Idle []
    ∷ entry (event.Step 14) op.Idle []
    ∷ entry (event.Step 14) (op.AckOk 14) []
    ∷ entry (event.Step 14) (op.CommitOk 14 5) []
    ∷ entry (event.Step 14) (op.Push 14 5) []
    ∷ entry (event.Step 14) (op.LockOk 14 ((codes "z") ∷ [])) []
    ∷ entry (event.Step 14) (op.SessionNew 14) []
    ∷ entry (event.Deliver 3) (op.Follower 14 3 1) []
    ∷ entry (event.Client 3) (op.Send 3 1 1) []
    ∷ entry (event.Client 2) op.Idle []
    ∷ entry (event.Client 2) (op.LookOk 2 3 4) ((line.Reply 2 3 verb.Close (shown.Done 4)) ∷ [])
    ∷ entry (event.Client 2) (op.TakeDone 2 2 4) []
    ∷ entry (event.Step 13) op.Idle []
    ∷ entry (event.Step 13) op.Idle []
    ∷ entry (event.Step 13) op.Idle []
    ∷ entry (event.Step 13) op.Idle []
    ∷ entry (event.Step 13) op.Idle []
    ∷ entry (event.Step 13) (op.AckOk 13) []
    ∷ entry (event.Step 13) (op.DoneOk 13 4) []
    ∷ entry (event.Step 13) (op.Reply 13 2 2) []
    ∷ entry (event.Step 13) (op.PublishOk 13 4) ((line.Tx (record { tx = 4; moment = 10; session = 2; k = 2; act = act.Close false [] })) ∷ [])
    ∷ entry (event.Step 13) (op.SweepOk 13 4 0) []
    ∷ entry (event.Step 13) (op.PendingYes 13 4) []
    ∷ entry (event.Step 13) (op.CommitSettled 13 4 2) []
    ∷ entry event.Leader (op.Leader 13 4) []
    ∷ entry (event.Step 12) op.Idle []
    ∷ entry (event.Step 12) op.Idle []
    ∷ entry (event.Step 12) (op.AckOk 12) []
    ∷ entry (event.Step 12) (op.CommitOk 12 4) []
    ∷ entry (event.Step 12) (op.Push 12 4) []
    ∷ entry (event.Step 12) (op.Owned 12 0) []
    ∷ entry (event.Step 12) (op.SessionNew 12) []
    ∷ entry (event.Deliver 2) (op.Follower 12 2 2) []
    ∷ entry (event.Client 2) (op.Send 2 3 2) []
    ∷ entry (event.Client 2) (op.WatchSet 2 2 2) ((line.Reply 2 2 verb.Get (shown.Got 3 (codes "1") (record { czxid = 3; mzxid = 3; pzxid = 3; ctime = 10; mtime = 10; version = 0; cversion = 0; aversion = 0; owner = 0; length = 1; children = 0 }))) ∷ [])
    ∷ entry (event.Client 2) (op.LookOk 2 2 3) []
    ∷ entry (event.Client 2) (op.Read 2 2 3) []
    ∷ entry (event.Client 2) (op.LookOk 2 1 3) ((line.Reply 2 1 verb.Create (shown.Created 3 ((codes "z") ∷ []))) ∷ [])
    ∷ entry (event.Client 2) (op.TakeDone 2 1 3) []
    ∷ entry (event.Client 1) op.Idle []
    ∷ entry (event.Client 1) (op.TakeWatch 1 1) []
    ∷ entry (event.Step 11) op.Idle []
    ∷ entry (event.Step 11) (op.AckOk 11) []
    ∷ entry (event.Step 11) (op.Told 11 3) []
    ∷ entry (event.Step 11) (op.Tell 11 1 1) []
    ∷ entry event.Watch (op.Teller 11 1) []
    ∷ entry (event.Step 10) op.Idle []
    ∷ entry (event.Step 10) op.Idle []
    ∷ entry (event.Step 10) (op.AckOk 10) []
    ∷ entry (event.Step 10) (op.DoneOk 10 3) []
    ∷ entry (event.Step 10) (op.Reply 10 2 1) []
    ∷ entry (event.Step 10) (op.Notify 10 3 1) []
    ∷ entry (event.Step 10) (op.PublishOk 10 3) ((line.Tx (record { tx = 3; moment = 10; session = 2; k = 1; act = act.Create ((codes "z") ∷ []) (codes "1") false false })) ∷ [])
    ∷ entry (event.Step 10) (op.PutOk 10 3 ((codes "z") ∷ [])) []
    ∷ entry (event.Step 10) (op.PutOk 10 3 []) []
    ∷ entry (event.Step 10) (op.SweepOk 10 3 1) []
    ∷ entry (event.Step 10) (op.PendingYes 10 3) []
    ∷ entry (event.Step 10) (op.CommitSettled 10 3 1) []
    ∷ entry event.Leader (op.Leader 10 3) []
    ∷ entry (event.Step 9) op.Idle []
    ∷ entry (event.Step 9) (op.AckOk 9) []
    ∷ entry (event.Step 9) (op.CommitOk 9 3) []
    ∷ entry (event.Step 9) (op.Push 9 3) []
    ∷ entry (event.Step 9) (op.LockOk 9 ((codes "z") ∷ [])) []
    ∷ entry (event.Step 9) (op.LockOk 9 []) []
    ∷ entry (event.Step 9) (op.SessionNew 9) []
    ∷ entry (event.Deliver 2) (op.Follower 9 2 1) []
    ∷ entry (event.Client 2) (op.Send 2 1 1) []
    ∷ entry (event.Client 1) (op.Local 1 3) ((line.Reply 1 3 verb.Get (shown.Refused code.SessionExpired 2 0)) ∷ [])
    ∷ entry (event.Client 1) (op.TakePing 1 4) []
    ∷ entry (event.Client 1) (op.TakeEvicted 1 2 2) []
    ∷ entry (event.Client 1) (op.TakeEvicted 1 2 2) ((line.Expired 1 2) ∷ [])
    ∷ entry (event.Client 1) (op.Pong 1 3) []
    ∷ entry (event.Client 1) (op.TakePing 1 3) []
    ∷ entry (event.Step 4) (op.NoteOk 4) []
    ∷ entry (event.Step 4) (op.Ping 4 1) []
    ∷ entry (event.Step 8) (op.AckGone 8) []
    ∷ entry (event.Step 8) (op.DoneMiss 8 2 2) []
    ∷ entry (event.Step 8) (op.Reply 8 1 2) []
    ∷ entry (event.Step 8) (op.PublishMiss 8 2 2) []
    ∷ entry (event.Step 7) (op.AckOk 7) []
    ∷ entry (event.Step 7) (op.DoneOk 7 2) []
    ∷ entry (event.Step 7) (op.Reply 7 1 2) []
    ∷ entry (event.Step 7) (op.PublishOk 7 2) ((line.Tx (record { tx = 2; moment = 10; session = 1; k = 2; act = act.Close true (((codes "x") ∷ []) ∷ []) })) ∷ [])
    ∷ entry (event.Step 8) (op.PutMiss 8 2 ((codes "x") ∷ []) 2) []
    ∷ entry (event.Step 8) (op.PutMiss 8 2 [] 2) []
    ∷ entry (event.Step 8) (op.SweepMiss 8 2 2 0) []
    ∷ entry (event.Step 8) (op.PendingYes 8 2) []
    ∷ entry (event.Step 8) (op.CommitSettled 8 2 2) []
    ∷ entry (event.Step 7) (op.PutOk 7 2 ((codes "x") ∷ [])) []
    ∷ entry (event.Step 7) (op.PutOk 7 2 []) []
    ∷ entry (event.Step 7) (op.SweepOk 7 2 0) []
    ∷ entry (event.Step 7) (op.PendingYes 7 2) []
    ∷ entry (event.Step 7) (op.CommitSettled 7 2 2) []
    ∷ entry event.Leader (op.Leader 8 2) []
    ∷ entry event.Leader (op.Leader 7 2) []
    ∷ entry (event.Step 6) (op.AckOk 6) []
    ∷ entry (event.Step 6) (op.CommitOk 6 2) []
    ∷ entry (event.Step 6) (op.Push 6 2) []
    ∷ entry (event.Step 6) (op.LockOk 6 ((codes "x") ∷ [])) []
    ∷ entry (event.Step 6) (op.LockOk 6 []) []
    ∷ entry (event.Step 6) (op.Owned 6 1) []
    ∷ entry (event.Step 6) (op.SessionNew 6) []
    ∷ entry (event.Deliver 1) (op.Follower 6 1 2) []
    ∷ entry (event.Step 5) (op.Evict 5 2) []
    ∷ entry (event.Step 5) (op.ProbeLate 5 3 0) []
    ∷ entry (event.Beat 1) (op.Beat 5 1) []
    ∷ entry (event.Clock 10) (op.Clock 10) []
    ∷ entry (event.Step 3) (op.NoteOk 3) []
    ∷ entry (event.Step 3) (op.Ping 3 1) []
    ∷ entry (event.Step 4) (op.ProbeFresh 4) []
    ∷ entry (event.Step 3) (op.ProbeFresh 3) []
    ∷ entry (event.Beat 1) (op.Beat 4 1) []
    ∷ entry (event.Beat 1) (op.Beat 3 1) []
    ∷ entry (event.Client 1) (op.WatchSet 1 2 1) ((line.Reply 1 2 verb.Stat (shown.Refused code.NoNode 1 0)) ∷ [])
    ∷ entry (event.Client 1) (op.LookOk 1 2 1) []
    ∷ entry (event.Client 1) (op.Read 1 2 0) []
    ∷ entry (event.Client 1) (op.LookOk 1 1 1) ((line.Reply 1 1 verb.Create (shown.Created 1 ((codes "x") ∷ []))) ∷ [])
    ∷ entry (event.Client 1) (op.TakeDone 1 1 1) []
    ∷ entry (event.Step 2) op.Idle []
    ∷ entry (event.Step 2) op.Idle []
    ∷ entry (event.Step 2) op.Idle []
    ∷ entry (event.Step 2) (op.AckOk 2) []
    ∷ entry (event.Step 2) (op.DoneOk 2 1) []
    ∷ entry (event.Step 2) (op.Reply 2 1 1) []
    ∷ entry (event.Step 2) (op.PublishOk 2 1) ((line.Tx (record { tx = 1; moment = 0; session = 1; k = 1; act = act.Create ((codes "x") ∷ []) (codes "0") false true })) ∷ [])
    ∷ entry (event.Step 2) (op.PutOk 2 1 ((codes "x") ∷ [])) []
    ∷ entry (event.Step 2) (op.PutOk 2 1 []) []
    ∷ entry (event.Step 2) (op.SweepOk 2 1 0) []
    ∷ entry (event.Step 2) (op.PendingYes 2 1) []
    ∷ entry (event.Step 2) (op.CommitSettled 2 1 1) []
    ∷ entry event.Leader (op.Leader 2 1) []
    ∷ entry (event.Step 1) op.Idle []
    ∷ entry (event.Step 1) (op.AckOk 1) []
    ∷ entry (event.Step 1) (op.CommitOk 1 1) []
    ∷ entry (event.Step 1) (op.Push 1 1) []
    ∷ entry (event.Step 1) (op.LockOk 1 ((codes "x") ∷ [])) []
    ∷ entry (event.Step 1) (op.LockOk 1 []) []
    ∷ entry (event.Step 1) (op.SessionNew 1) []
    ∷ entry (event.Deliver 1) (op.Follower 1 1 1) []
    ∷ entry (event.Client 1) (op.Send 1 1 1) []
    ∷ []

abbrev pub AfterTheEndIsPlayed : Type 0
AfterTheEndIsPlayed = IsPlayed deployed entries

-- its events are the deployment's turns and a last drain,
abbrev pub AfterTheEndIsScheduled : Type 0
AfterTheEndIsScheduled = Scheduled deployed entries

-- and all is answered
abbrev pub AfterTheEndIsAnswered : Type 0
AfterTheEndIsAnswered = Answered deployed entries
