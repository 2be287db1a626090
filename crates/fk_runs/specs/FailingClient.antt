-- Each operation of a client fails once. Each entry is copied from the printed history of
-- the case `a-client-whose-calls-fail`.
use Rattle.std.specs.Prelude.{negsuc, true, false, List, [], ◌∷◌, codes}
use Rattle.fk_base.specs.declared.code.Code.TheVariants as code
use Rattle.fk_tree.specs.declared.change.Change.TheVariants as change
use Rattle.fk_tree.specs.declared.change.Kind.TheVariants as kind
use Rattle.fk_print.specs.declared.entry.Entry.{Entry}
use Rattle.fk_print.specs.declared.event.Event.TheVariants as event
use Rattle.fk_print.specs.declared.line.Act.TheVariants as act
use Rattle.fk_print.specs.declared.line.Line.TheVariants as line
use Rattle.fk_print.specs.declared.line.Shown.TheVariants as shown
use Rattle.fk_print.specs.declared.line.Verb.TheVariants as verb
use Rattle.fk_print.specs.declared.op.Op.TheVariants as op
use Rattle.fk_script.specs.declared.command.Command.TheVariants as command
use Rattle.fk_script.specs.declared.deployment.Deployment.{Deployment}
use Rattle.fk_script.specs.declared.deployment.Turn.TheVariants as turn
use Rattle.fk_spec.specs.Scenarios.{entry}
use Rattle.fk_spec.specs.Schedule.{Answered, Scheduled}
use Rattle.fk_runs.specs.Playing.{IsPlayed}

abbrev pub deployed : Deployment
deployed = record { config = record { lock = 10; beat = 30 }; clients = (record { name = (codes "a"); commands = ((command.Create (codes "x") (codes "1") false false true) ∷ (command.Create (codes "/x") (codes "0") false false true) ∷ (command.Create (codes "/y") (codes "1") false false true) ∷ (command.Get (codes "/x") true) ∷ (command.Get (codes "/x") true) ∷ (command.Stat (codes "/z") true) ∷ (command.Ls (codes "/") false) ∷ (command.Set (codes "/x") (codes "1") (negsuc 0) false) ∷ (command.Set (codes "x") (codes "1") (negsuc 0) false) ∷ (command.Set (codes "/x") (codes "2") (negsuc 0) true) ∷ (command.Close) ∷ (command.Get (codes "/x") false) ∷ []) } ∷ []); turns = ((turn.One (event.FailClient 1)) ∷ (turn.One (event.Client 1)) ∷ (turn.One (event.FailClient 1)) ∷ (turn.One (event.Deliver 1)) ∷ (turn.One (event.Step 1)) ∷ (turn.One (event.Step 1)) ∷ (turn.One (event.Step 1)) ∷ (turn.One (event.Step 1)) ∷ (turn.One (event.Step 1)) ∷ (turn.One (event.Step 1)) ∷ (turn.One (event.Step 1)) ∷ (turn.One event.Leader) ∷ (turn.One (event.Step 2)) ∷ (turn.One (event.Step 2)) ∷ (turn.One (event.Step 2)) ∷ (turn.One (event.Step 2)) ∷ (turn.One (event.Step 2)) ∷ (turn.One (event.Step 2)) ∷ (turn.One (event.Step 2)) ∷ (turn.One (event.Step 2)) ∷ (turn.One (event.Step 2)) ∷ (turn.One (event.Step 2)) ∷ (turn.One (event.Step 2)) ∷ (turn.One (event.Step 2)) ∷ (turn.One (event.FailClient 1)) ∷ (turn.One (event.Client 1)) ∷ (turn.One (event.FailClient 1)) ∷ (turn.One (event.Client 1)) ∷ (turn.One (event.FailClient 1)) ∷ (turn.One (event.Client 1)) ∷ (turn.One (event.Client 1)) ∷ (turn.One (event.FailClient 1)) ∷ (turn.One (event.Client 1)) ∷ (turn.One (event.FailClient 1)) ∷ (turn.One (event.Client 1)) ∷ (turn.One (event.Client 1)) ∷ (turn.One (event.Client 1)) ∷ (turn.One (event.FailClient 1)) ∷ (turn.One (event.Beat 1)) ∷ (turn.One (event.Step 3)) ∷ (turn.One (event.Step 3)) ∷ (turn.One (event.Step 3)) ∷ (turn.One (event.FailClient 1)) ∷ (turn.One (event.Client 1)) ∷ (turn.One (event.FailClient 1)) ∷ (turn.One (event.Client 1)) ∷ (turn.One (event.FailClient 1)) ∷ (turn.One (event.Client 1)) ∷ (turn.One (event.Client 1)) ∷ (turn.One (event.Client 1)) ∷ (turn.One (event.Client 1)) ∷ (turn.One (event.FailClient 1)) ∷ (turn.One (event.Client 1)) ∷ (turn.One (event.Client 1)) ∷ []); scheduled = true }

-- the newest first
abbrev pub entries : List Entry
entries = entry (event.Client 1) (op.Local 1 12) ((line.Reply 1 12 verb.Get (shown.Refused code.SessionExpired 3 0)) ∷ [])
    ∷ entry (event.Client 1) (op.LookOk 1 11 3) ((line.Reply 1 11 verb.Close (shown.Done 3)) ∷ [])
    ∷ entry (event.Client 1) (op.TakeDone 1 3 3) []
    ∷ entry (event.Step 8) (op.AckOk 8) []
    ∷ entry (event.Step 8) (op.DoneOk 8 3) []
    ∷ entry (event.Step 8) (op.Reply 8 1 3) []
    ∷ entry (event.Step 8) (op.PublishOk 8 3) ((line.Tx (record { tx = 3; moment = 11; session = 1; k = 3; act = act.Close false [] })) ∷ [])
    ∷ entry (event.Step 8) (op.SweepOk 8 3 0) []
    ∷ entry (event.Step 8) (op.PendingYes 8 3) []
    ∷ entry (event.Step 8) (op.CommitSettled 8 3 3) []
    ∷ entry event.Leader (op.Leader 8 3) []
    ∷ entry (event.Step 7) (op.AckOk 7) []
    ∷ entry (event.Step 7) (op.CommitOk 7 3) []
    ∷ entry (event.Step 7) (op.Push 7 3) []
    ∷ entry (event.Step 7) (op.Owned 7 0) []
    ∷ entry (event.Step 7) (op.SessionNew 7) []
    ∷ entry (event.Deliver 1) (op.Follower 7 1 3) []
    ∷ entry (event.Client 1) (op.Send 1 11 3) []
    ∷ entry (event.Client 1) (op.LookOk 1 8 2) ((line.Reply 1 8 verb.Set (shown.Version 2 1)) ∷ (line.Reply 1 9 verb.Set (shown.Plain code.BadArguments)) ∷ (line.Reply 1 10 verb.Set (shown.Plain code.ConnectionLoss)) ∷ [])
    ∷ entry (event.Client 1) (op.TakeWatch 1 1) ((line.Notice 1 2 kind.Data change.Changed ((codes "x") ∷ [])) ∷ [])
    ∷ entry (event.Client 1) (op.TakeDone 1 2 2) []
    ∷ entry (event.Step 6) (op.AckOk 6) []
    ∷ entry (event.Step 6) (op.Told 6 2) []
    ∷ entry (event.Step 6) (op.Tell 6 1 1) []
    ∷ entry event.Watch (op.Teller 6 1) []
    ∷ entry (event.Step 5) (op.AckOk 5) []
    ∷ entry (event.Step 5) (op.DoneOk 5 2) []
    ∷ entry (event.Step 5) (op.Reply 5 1 2) []
    ∷ entry (event.Step 5) (op.Notify 5 2 1) []
    ∷ entry (event.Step 5) (op.PublishOk 5 2) ((line.Tx (record { tx = 2; moment = 11; session = 1; k = 2; act = act.Set ((codes "x") ∷ []) (codes "1") (negsuc 0) })) ∷ [])
    ∷ entry (event.Step 5) (op.PutOk 5 2 ((codes "x") ∷ [])) []
    ∷ entry (event.Step 5) (op.SweepOk 5 2 1) []
    ∷ entry (event.Step 5) (op.PendingYes 5 2) []
    ∷ entry (event.Step 5) (op.CommitSettled 5 2 2) []
    ∷ entry event.Leader (op.Leader 5 2) []
    ∷ entry (event.Step 4) (op.AckOk 4) []
    ∷ entry (event.Step 4) (op.CommitOk 4 2) []
    ∷ entry (event.Step 4) (op.Push 4 2) []
    ∷ entry (event.Step 4) (op.LockOk 4 ((codes "x") ∷ [])) []
    ∷ entry (event.Step 4) (op.SessionNew 4) []
    ∷ entry (event.Deliver 1) (op.Follower 4 1 2) []
    ∷ entry (event.Clock 11) (op.Clock 11) []
    ∷ entry (event.Client 1) op.Idle []
    ∷ entry (event.Client 1) op.Idle []
    ∷ entry (event.FailClient 1) (op.SendFault 1 10) []
    ∷ entry (event.Client 1) (op.Local 1 9) []
    ∷ entry (event.Client 1) (op.Send 1 8 2) []
    ∷ entry (event.Client 1) (op.LookOk 1 7 1) ((line.Reply 1 7 verb.Ls (shown.Listed 1 ((codes "x") ∷ []))) ∷ [])
    ∷ entry (event.Client 1) (op.Read 1 7 1) []
    ∷ entry (event.FailClient 1) (op.ReadFault 1 6) ((line.Reply 1 6 verb.Stat (shown.Plain code.SystemError)) ∷ [])
    ∷ entry (event.Client 1) (op.Pong 1 3) []
    ∷ entry (event.FailClient 1) (op.PongFault 1) []
    ∷ entry (event.Client 1) (op.TakePing 1 3) []
    ∷ entry (event.FailClient 1) (op.TakeFault 1) []
    ∷ entry (event.Step 3) (op.NoteOk 3) []
    ∷ entry (event.Step 3) (op.Ping 3 1) []
    ∷ entry (event.Step 3) (op.ProbeFresh 3) []
    ∷ entry (event.Beat 1) (op.Beat 3 1) []
    ∷ entry (event.FailClient 1) (op.LookFault 1 6) []
    ∷ entry (event.Client 1) (op.Read 1 6 0) []
    ∷ entry (event.Client 1) (op.WatchSet 1 5 1) ((line.Reply 1 5 verb.Get (shown.Got 1 (codes "0") (record { czxid = 1; mzxid = 1; pzxid = 1; ctime = 0; mtime = 0; version = 0; cversion = 0; aversion = 0; owner = 0; length = 1; children = 0 }))) ∷ [])
    ∷ entry (event.Client 1) (op.LookOk 1 5 1) []
    ∷ entry (event.FailClient 1) (op.LookFault 1 5) []
    ∷ entry (event.Client 1) (op.Read 1 5 1) []
    ∷ entry (event.FailClient 1) (op.WatchFault 1 4) ((line.Reply 1 4 verb.Get (shown.Plain code.SystemError)) ∷ [])
    ∷ entry (event.Client 1) (op.LookOk 1 4 1) []
    ∷ entry (event.Client 1) (op.Read 1 4 1) []
    ∷ entry (event.FailClient 1) (op.SendFault 1 3) ((line.Reply 1 3 verb.Create (shown.Plain code.ConnectionLoss)) ∷ [])
    ∷ entry (event.Client 1) (op.LookOk 1 2 1) ((line.Reply 1 2 verb.Create (shown.Created 1 ((codes "x") ∷ []))) ∷ [])
    ∷ entry (event.FailClient 1) (op.LookFault 1 2) []
    ∷ entry (event.Client 1) (op.TakeDone 1 1 1) []
    ∷ entry (event.FailClient 1) (op.TakeFault 1) []
    ∷ entry (event.Step 2) op.Idle []
    ∷ entry (event.Step 2) op.Idle []
    ∷ entry (event.Step 2) op.Idle []
    ∷ entry (event.Step 2) (op.AckOk 2) []
    ∷ entry (event.Step 2) (op.DoneOk 2 1) []
    ∷ entry (event.Step 2) (op.Reply 2 1 1) []
    ∷ entry (event.Step 2) (op.PublishOk 2 1) ((line.Tx (record { tx = 1; moment = 0; session = 1; k = 1; act = act.Create ((codes "x") ∷ []) (codes "0") false false })) ∷ [])
    ∷ entry (event.Step 2) (op.PutOk 2 1 ((codes "x") ∷ [])) []
    ∷ entry (event.Step 2) (op.PutOk 2 1 []) []
    ∷ entry (event.Step 2) (op.SweepOk 2 1 0) []
    ∷ entry (event.Step 2) (op.PendingYes 2 1) []
    ∷ entry (event.Step 2) (op.CommitSettled 2 1 1) []
    ∷ entry event.Leader (op.Leader 2 1) []
    ∷ entry (event.Step 1) op.Idle []
    ∷ entry (event.Step 1) (op.AckOk 1) []
    ∷ entry (event.Step 1) (op.CommitOk 1 1) []
    ∷ entry (event.Step 1) (op.Push 1 1) []
    ∷ entry (event.Step 1) (op.LockOk 1 ((codes "x") ∷ [])) []
    ∷ entry (event.Step 1) (op.LockOk 1 []) []
    ∷ entry (event.Step 1) (op.SessionNew 1) []
    ∷ entry (event.Deliver 1) (op.Follower 1 1 1) []
    ∷ entry (event.FailClient 1) op.Idle []
    ∷ entry (event.Client 1) (op.Send 1 2 1) []
    ∷ entry (event.FailClient 1) (op.Local 1 1) ((line.Reply 1 1 verb.Create (shown.Plain code.BadArguments)) ∷ [])
    ∷ []

abbrev pub FailingClientIsPlayed : Type 0
FailingClientIsPlayed = IsPlayed deployed entries

-- its events are the deployment's turns and a last drain,
abbrev pub FailingClientIsScheduled : Type 0
FailingClientIsScheduled = Scheduled deployed entries

-- and all is answered
abbrev pub FailingClientIsAnswered : Type 0
FailingClientIsAnswered = Answered deployed entries
