-- Two clients, a drain that ends five functions in flight, a watch function, and a last drain. Each entry is copied from the printed history of
-- the case `drain-with-five-in-flight`.
use Rattle.std.specs.Prelude.{pos, negsuc, true, false, List, [], ◌∷◌, codes}
use Rattle.fk_base.specs.declared.code.Code.TheVariants as code
use Rattle.fk_tree.specs.declared.change.Change.TheVariants as change
use Rattle.fk_tree.specs.declared.change.Kind.TheVariants as kind
use Rattle.fk_print.specs.declared.entry.Entry.{Entry}
use Rattle.fk_print.specs.declared.event.Event.TheVariants as event
use Rattle.fk_print.specs.declared.line.Act.TheVariants as act
use Rattle.fk_print.specs.declared.line.Line.TheVariants as line
use Rattle.fk_print.specs.declared.line.Shown.TheVariants as shown
use Rattle.fk_print.specs.declared.line.Verb.TheVariants as verb
use Rattle.fk_print.specs.declared.op.Op.TheVariants as op
use Rattle.fk_script.specs.declared.command.Command.TheVariants as command
use Rattle.fk_script.specs.declared.command.PartCommand.TheVariants as part_command
use Rattle.fk_script.specs.declared.deployment.Deployment.{Deployment}
use Rattle.fk_script.specs.declared.deployment.Turn.TheVariants as turn
use Rattle.fk_spec.specs.Scenarios.{entry}
use Rattle.fk_spec.specs.Schedule.{Answered, Scheduled}
use Rattle.fk_runs.specs.Playing.{IsPlayed}

abbrev pub deployed : Deployment
deployed = record { config = record { lock = 10; beat = 30 }; clients = (record { name = (codes "b"); commands = ((command.Get (codes "/a") true) ∷ (command.Get (codes "/a") true) ∷ (command.Ls (codes "/a") false) ∷ (command.Create (codes "/a") [] false true true) ∷ (command.Multi ((part_command.Set (codes "/a") (codes "-x") (negsuc 0)) ∷ (part_command.Set (codes "/a") [] (pos 1)) ∷ (part_command.Create (codes "/a") [] true) ∷ []) false) ∷ (command.Set (codes "/a") (codes "=~") (negsuc 0) true) ∷ (command.Close) ∷ []) } ∷ record { name = (codes "zzz"); commands = ((command.Create (codes "/a") [] false false true) ∷ (command.Get (codes "/a") false) ∷ (command.Create (codes "/a/q") (codes "&") true true true) ∷ (command.Stat (codes "/a") false) ∷ []) } ∷ []); turns = ((turn.One (event.Client 1)) ∷ (turn.One (event.Client 2)) ∷ (turn.One (event.Clock 11)) ∷ (turn.One (event.Deliver 2)) ∷ (turn.One (event.Deliver 2)) ∷ (turn.One (event.Step 2)) ∷ (turn.One (event.Deliver 2)) ∷ (turn.One (event.Step 2)) ∷ (turn.One (event.Step 3)) ∷ (turn.One (event.Step 3)) ∷ (turn.One (event.Deliver 2)) ∷ (turn.One (event.Step 2)) ∷ (turn.One (event.Deliver 2)) ∷ (turn.One (event.Step 1)) ∷ (turn.Drain) ∷ (turn.One (event.Clock 52)) ∷ []); scheduled = true }

-- the newest first
abbrev pub entries : List Entry
entries = entry (event.Clock 63) (op.Clock 63) []
    ∷ entry (event.Clock 52) (op.Clock 52) []
    ∷ entry (event.Client 2) (op.LookOk 2 4 4) ((line.Reply 2 4 verb.Stat (shown.Stated 4 (record { czxid = 1; mzxid = 2; pzxid = 4; ctime = 22; mtime = 22; version = 1; cversion = 1; aversion = 0; owner = 0; length = 2; children = 1 }))) ∷ [])
    ∷ entry (event.Client 2) (op.Read 2 4 4) []
    ∷ entry (event.Client 2) (op.LookOk 2 3 4) ((line.Reply 2 3 verb.Create (shown.Created 4 ((codes "a") ∷ (codes "q0000000000") ∷ []))) ∷ [])
    ∷ entry (event.Client 2) (op.TakeDone 2 2 4) []
    ∷ entry (event.Step 16) (op.AckOk 16) []
    ∷ entry (event.Step 16) (op.DoneOk 16 4) []
    ∷ entry (event.Step 16) (op.Reply 16 2 2) []
    ∷ entry (event.Step 16) (op.PublishOk 16 4) ((line.Tx (record { tx = 4; moment = 22; session = 2; k = 2; act = act.Create ((codes "a") ∷ (codes "q0000000000") ∷ []) (codes "&") true true })) ∷ [])
    ∷ entry (event.Step 16) (op.PutOk 16 4 ((codes "a") ∷ (codes "q0000000000") ∷ [])) []
    ∷ entry (event.Step 16) (op.PutOk 16 4 ((codes "a") ∷ [])) []
    ∷ entry (event.Step 16) (op.SweepOk 16 4 0) []
    ∷ entry (event.Step 16) (op.PendingYes 16 4) []
    ∷ entry (event.Step 16) (op.CommitSettled 16 4 2) []
    ∷ entry event.Leader (op.Leader 16 4) []
    ∷ entry (event.Step 15) (op.AckOk 15) []
    ∷ entry (event.Step 15) (op.CommitOk 15 4) []
    ∷ entry (event.Step 15) (op.Push 15 4) []
    ∷ entry (event.Step 15) (op.LockOk 15 ((codes "a") ∷ (codes "q0000000000") ∷ [])) []
    ∷ entry (event.Step 15) (op.LockOk 15 ((codes "a") ∷ [])) []
    ∷ entry (event.Step 15) (op.SessionNew 15) []
    ∷ entry (event.Deliver 2) (op.Follower 15 2 2) []
    ∷ entry (event.Client 2) (op.Send 2 3 2) []
    ∷ entry (event.Client 2) (op.LookOk 2 2 3) ((line.Reply 2 2 verb.Get (shown.Got 2 (codes "=~") (record { czxid = 1; mzxid = 2; pzxid = 1; ctime = 22; mtime = 22; version = 1; cversion = 0; aversion = 0; owner = 0; length = 2; children = 0 }))) ∷ [])
    ∷ entry (event.Client 2) (op.Read 2 2 2) []
    ∷ entry (event.Client 2) (op.LookOk 2 1 3) ((line.Reply 2 1 verb.Create (shown.Created 1 ((codes "a") ∷ []))) ∷ [])
    ∷ entry (event.Client 2) (op.TakeDone 2 1 1) []
    ∷ entry (event.Client 1) (op.LookOk 1 7 3) ((line.Reply 1 7 verb.Close (shown.Done 3)) ∷ [])
    ∷ entry (event.Client 1) (op.TakeDone 1 4 3) []
    ∷ entry (event.Step 14) (op.AckOk 14) []
    ∷ entry (event.Step 14) (op.DoneOk 14 3) []
    ∷ entry (event.Step 14) (op.Reply 14 1 4) []
    ∷ entry (event.Step 14) (op.PublishOk 14 3) ((line.Tx (record { tx = 3; moment = 22; session = 1; k = 4; act = act.Close false [] })) ∷ [])
    ∷ entry (event.Step 14) (op.SweepOk 14 3 0) []
    ∷ entry (event.Step 14) (op.PendingYes 14 3) []
    ∷ entry (event.Step 14) (op.CommitSettled 14 3 4) []
    ∷ entry event.Leader (op.Leader 14 3) []
    ∷ entry (event.Step 13) (op.AckOk 13) []
    ∷ entry (event.Step 13) (op.CommitOk 13 3) []
    ∷ entry (event.Step 13) (op.Push 13 3) []
    ∷ entry (event.Step 13) (op.Owned 13 0) []
    ∷ entry (event.Step 13) (op.SessionNew 13) []
    ∷ entry (event.Deliver 1) (op.Follower 13 1 4) []
    ∷ entry (event.Client 1) (op.Send 1 7 4) []
    ∷ entry (event.Client 1) (op.LookOk 1 6 2) ((line.Reply 1 6 verb.Set (shown.Version 2 1)) ∷ [])
    ∷ entry (event.Client 1) (op.TakeWatch 1 1) ((line.Notice 1 2 kind.Data change.Changed ((codes "a") ∷ [])) ∷ [])
    ∷ entry (event.Client 1) (op.TakeDone 1 3 2) []
    ∷ entry (event.Step 12) (op.AckOk 12) []
    ∷ entry (event.Step 12) (op.Told 12 2) []
    ∷ entry (event.Step 12) (op.Tell 12 1 1) []
    ∷ entry event.Watch (op.Teller 12 1) []
    ∷ entry (event.Step 11) (op.AckOk 11) []
    ∷ entry (event.Step 11) (op.DoneOk 11 2) []
    ∷ entry (event.Step 11) (op.Reply 11 1 3) []
    ∷ entry (event.Step 11) (op.Notify 11 2 1) []
    ∷ entry (event.Step 11) (op.PublishOk 11 2) ((line.Tx (record { tx = 2; moment = 22; session = 1; k = 3; act = act.Set ((codes "a") ∷ []) (codes "=~") (negsuc 0) })) ∷ [])
    ∷ entry (event.Step 11) (op.PutOk 11 2 ((codes "a") ∷ [])) []
    ∷ entry (event.Step 11) (op.SweepOk 11 2 1) []
    ∷ entry (event.Step 11) (op.PendingYes 11 2) []
    ∷ entry (event.Step 11) (op.CommitSettled 11 2 3) []
    ∷ entry event.Leader (op.Leader 11 2) []
    ∷ entry (event.Step 10) (op.AckOk 10) []
    ∷ entry (event.Step 10) (op.CommitOk 10 2) []
    ∷ entry (event.Step 10) (op.Push 10 2) []
    ∷ entry (event.Step 10) (op.LockOk 10 ((codes "a") ∷ [])) []
    ∷ entry (event.Step 10) (op.SessionNew 10) []
    ∷ entry (event.Deliver 1) (op.Follower 10 1 3) []
    ∷ entry (event.Client 1) (op.Send 1 6 3) []
    ∷ entry (event.Client 1) (op.LookOk 1 5 1) ((line.Reply 1 5 verb.Multi (shown.Refused code.NodeExists 1 3)) ∷ [])
    ∷ entry (event.Client 1) (op.TakeRefused 1 2) []
    ∷ entry (event.Step 9) (op.AckOk 9) []
    ∷ entry (event.Step 9) (op.Reply 9 1 2) []
    ∷ entry (event.Step 9) (op.RefuseOk 9 code.NodeExists 3 1) []
    ∷ entry (event.Step 9) (op.LockOk 9 ((codes "a") ∷ [])) []
    ∷ entry (event.Step 9) (op.LockOk 9 []) []
    ∷ entry (event.Step 9) (op.SessionNew 9) []
    ∷ entry (event.Deliver 1) (op.Follower 9 1 2) []
    ∷ entry (event.Client 1) (op.Send 1 5 2) []
    ∷ entry (event.Client 1) (op.LookOk 1 4 1) ((line.Reply 1 4 verb.Create (shown.Refused code.NodeExists 1 0)) ∷ [])
    ∷ entry (event.Client 1) (op.TakeRefused 1 1) []
    ∷ entry (event.Step 8) (op.AckOk 8) []
    ∷ entry (event.Step 8) (op.Reply 8 1 1) []
    ∷ entry (event.Step 8) (op.RefuseOk 8 code.NodeExists 0 1) []
    ∷ entry (event.Step 8) (op.LockOk 8 ((codes "a") ∷ [])) []
    ∷ entry (event.Step 8) (op.LockOk 8 []) []
    ∷ entry (event.Step 8) (op.SessionNew 8) []
    ∷ entry (event.Deliver 1) (op.Follower 8 1 1) []
    ∷ entry (event.Client 1) (op.Send 1 4 1) []
    ∷ entry (event.Client 1) (op.LookOk 1 3 1) ((line.Reply 1 3 verb.Ls (shown.Listed 1 [])) ∷ [])
    ∷ entry (event.Client 1) (op.Read 1 3 1) []
    ∷ entry (event.Client 1) (op.WatchSet 1 2 1) ((line.Reply 1 2 verb.Get (shown.Got 1 [] (record { czxid = 1; mzxid = 1; pzxid = 1; ctime = 22; mtime = 22; version = 0; cversion = 0; aversion = 0; owner = 0; length = 0; children = 0 }))) ∷ [])
    ∷ entry (event.Client 1) (op.LookOk 1 2 1) []
    ∷ entry (event.Client 1) (op.Read 1 2 1) []
    ∷ entry (event.Client 1) (op.LookOk 1 1 1) ((line.Reply 1 1 verb.Get (shown.Refused code.NoNode 0 0)) ∷ [])
    ∷ entry (event.Step 7) (op.AckOk 7) []
    ∷ entry (event.Step 7) (op.DoneOk 7 1) []
    ∷ entry (event.Step 7) (op.Reply 7 2 1) []
    ∷ entry (event.Step 7) (op.PublishOk 7 1) ((line.Tx (record { tx = 1; moment = 22; session = 2; k = 1; act = act.Create ((codes "a") ∷ []) [] false false })) ∷ [])
    ∷ entry (event.Step 7) (op.PutOk 7 1 ((codes "a") ∷ [])) []
    ∷ entry (event.Step 7) (op.PutOk 7 1 []) []
    ∷ entry (event.Step 7) (op.SweepOk 7 1 0) []
    ∷ entry (event.Step 7) (op.PendingYes 7 1) []
    ∷ entry (event.Step 7) (op.CommitSettled 7 1 1) []
    ∷ entry event.Leader (op.Leader 7 1) []
    ∷ entry (event.Step 6) (op.AckOk 6) []
    ∷ entry (event.Step 6) (op.CommitOk 6 1) []
    ∷ entry (event.Step 6) (op.Push 6 1) []
    ∷ entry (event.Step 6) (op.LockOk 6 ((codes "a") ∷ [])) []
    ∷ entry (event.Step 6) (op.LockOk 6 []) []
    ∷ entry (event.Step 6) (op.SessionNew 6) []
    ∷ entry (event.Deliver 2) (op.Follower 6 2 1) []
    ∷ entry (event.Clock 22) (op.Clock 22) []
    ∷ entry (event.Crash 5) (op.Crash 5) []
    ∷ entry (event.Crash 4) (op.Crash 4) []
    ∷ entry (event.Crash 3) (op.Crash 3) []
    ∷ entry (event.Crash 2) (op.Crash 2) []
    ∷ entry (event.Crash 1) (op.Crash 1) []
    ∷ entry (event.Step 1) (op.SessionNew 1) []
    ∷ entry (event.Deliver 2) (op.Follower 5 2 1) []
    ∷ entry (event.Step 2) (op.LockOk 2 ((codes "a") ∷ [])) []
    ∷ entry (event.Deliver 2) (op.Follower 4 2 1) []
    ∷ entry (event.Step 3) (op.LockBusy 3 [] 2 11) []
    ∷ entry (event.Step 3) (op.SessionNew 3) []
    ∷ entry (event.Step 2) (op.LockOk 2 []) []
    ∷ entry (event.Deliver 2) (op.Follower 3 2 1) []
    ∷ entry (event.Step 2) (op.SessionNew 2) []
    ∷ entry (event.Deliver 2) (op.Follower 2 2 1) []
    ∷ entry (event.Deliver 2) (op.Follower 1 2 1) []
    ∷ entry (event.Clock 11) (op.Clock 11) []
    ∷ entry (event.Client 2) (op.Send 2 1 1) []
    ∷ entry (event.Client 1) (op.Read 1 1 0) []
    ∷ []

abbrev pub WholeScheduleIsPlayed : Type 0
WholeScheduleIsPlayed = IsPlayed deployed entries

-- its events are the deployment's turns and a last drain,
abbrev pub WholeScheduleIsScheduled : Type 0
WholeScheduleIsScheduled = Scheduled deployed entries

-- and all is answered
abbrev pub WholeScheduleIsAnswered : Type 0
WholeScheduleIsAnswered = Answered deployed entries
