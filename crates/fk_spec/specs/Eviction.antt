-- A heartbeat evicts a session that doesn't answer. Each expected entry is copied from the printed history.
use Rattle.std.specs.Prelude.{◌≡◌, true, false, List, [], ◌∷◌, codes}
use Rattle.fk_base.specs.declared.code.Code.TheVariants as code
use Rattle.fk_print.specs.declared.entry.Entry.{Entry}
use Rattle.fk_print.specs.declared.event.Event.{Event}
use Rattle.fk_print.specs.declared.event.Event.TheVariants as event
use Rattle.fk_print.specs.declared.line.Act.TheVariants as act
use Rattle.fk_print.specs.declared.line.Line.TheVariants as line
use Rattle.fk_print.specs.declared.line.Shown.TheVariants as shown
use Rattle.fk_print.specs.declared.line.Verb.TheVariants as verb
use Rattle.fk_print.specs.declared.op.Op.TheVariants as op
use Rattle.fk_script.specs.declared.command.Command.TheVariants as command
use Rattle.fk_script.specs.declared.deployment.Deployment.{Deployment}
use Rattle.fk_script.specs.declared.deployment.Turn.TheVariants as turn
use Rattle.fk_spec.specs.Plan.{plan_of}
use Rattle.fk_spec.specs.Scenarios.{entry, played}

abbrev pub deployed : Deployment
deployed = record { config = record { lock = 10; beat = 30 }; clients = (record { name = (codes "s"); commands = ((command.Create (codes "/e") [] false true true) ∷ (command.Get (codes "/") false) ∷ []) } ∷ []); turns = ((turn.One (event.Client 1)) ∷ (turn.One (event.Deliver 1)) ∷ (turn.One (event.Step 1)) ∷ (turn.One (event.Step 1)) ∷ (turn.One (event.Step 1)) ∷ (turn.One (event.Step 1)) ∷ (turn.One (event.Step 1)) ∷ (turn.One (event.Step 1)) ∷ (turn.One event.Leader) ∷ (turn.One (event.Step 2)) ∷ (turn.One (event.Step 2)) ∷ (turn.One (event.Step 2)) ∷ (turn.One (event.Step 2)) ∷ (turn.One (event.Step 2)) ∷ (turn.One (event.Step 2)) ∷ (turn.One (event.Step 2)) ∷ (turn.One (event.Step 2)) ∷ (turn.One (event.Step 2)) ∷ (turn.One (event.Beat 1)) ∷ (turn.One (event.Step 3)) ∷ (turn.One (event.Step 3)) ∷ (turn.One (event.Step 3)) ∷ (turn.One (event.Clock 30)) ∷ (turn.One (event.Beat 1)) ∷ (turn.One (event.Step 4)) ∷ (turn.One (event.Clock 31)) ∷ (turn.One (event.Beat 1)) ∷ (turn.One (event.Step 5)) ∷ (turn.One (event.Step 5)) ∷ []); scheduled = true }

abbrev pub events : List Event
events = ((event.Client 1) ∷ (event.Deliver 1) ∷ (event.Step 1) ∷ (event.Step 1) ∷ (event.Step 1) ∷ (event.Step 1) ∷ (event.Step 1) ∷ (event.Step 1) ∷ event.Leader ∷ (event.Step 2) ∷ (event.Step 2) ∷ (event.Step 2) ∷ (event.Step 2) ∷ (event.Step 2) ∷ (event.Step 2) ∷ (event.Step 2) ∷ (event.Step 2) ∷ (event.Step 2) ∷ (event.Beat 1) ∷ (event.Step 3) ∷ (event.Step 3) ∷ (event.Step 3) ∷ (event.Clock 30) ∷ (event.Beat 1) ∷ (event.Step 4) ∷ (event.Clock 31) ∷ (event.Beat 1) ∷ (event.Step 5) ∷ (event.Step 5) ∷ (event.Clock 42) ∷ (event.Deliver 1) ∷ (event.Step 6) ∷ (event.Step 6) ∷ (event.Step 6) ∷ (event.Step 6) ∷ (event.Step 6) ∷ (event.Step 6) ∷ (event.Step 6) ∷ event.Leader ∷ (event.Step 7) ∷ (event.Step 7) ∷ (event.Step 7) ∷ (event.Step 7) ∷ (event.Step 7) ∷ (event.Step 7) ∷ (event.Step 7) ∷ (event.Step 7) ∷ (event.Step 7) ∷ (event.Client 1) ∷ (event.Client 1) ∷ (event.Client 1) ∷ (event.Client 1) ∷ (event.Client 1) ∷ (event.Client 1) ∷ [])

-- the newest first
abbrev pub entries : List Entry
entries = entry (event.Client 1) (op.Local 1 2) ((line.Reply 1 2 verb.Get (shown.Refused code.SessionExpired 2 0)) ∷ [])
    ∷ entry (event.Client 1) (op.LookOk 1 1 2) ((line.Reply 1 1 verb.Create (shown.Created 1 ((codes "e") ∷ []))) ∷ [])
    ∷ entry (event.Client 1) (op.TakeEvicted 1 2 2) ((line.Expired 1 2) ∷ [])
    ∷ entry (event.Client 1) (op.Pong 1 3) []
    ∷ entry (event.Client 1) (op.TakePing 1 3) []
    ∷ entry (event.Client 1) (op.TakeDone 1 1 1) []
    ∷ entry (event.Step 7) (op.AckOk 7) []
    ∷ entry (event.Step 7) (op.DoneOk 7 2) []
    ∷ entry (event.Step 7) (op.Reply 7 1 2) []
    ∷ entry (event.Step 7) (op.PublishOk 7 2) ((line.Tx (record { tx = 2; moment = 42; session = 1; k = 2; act = act.Close true (((codes "e") ∷ []) ∷ []) })) ∷ [])
    ∷ entry (event.Step 7) (op.PutOk 7 2 ((codes "e") ∷ [])) []
    ∷ entry (event.Step 7) (op.PutOk 7 2 []) []
    ∷ entry (event.Step 7) (op.SweepOk 7 2 0) []
    ∷ entry (event.Step 7) (op.PendingYes 7 2) []
    ∷ entry (event.Step 7) (op.CommitSettled 7 2 2) []
    ∷ entry event.Leader (op.Leader 7 2) []
    ∷ entry (event.Step 6) (op.AckOk 6) []
    ∷ entry (event.Step 6) (op.CommitOk 6 2) []
    ∷ entry (event.Step 6) (op.Push 6 2) []
    ∷ entry (event.Step 6) (op.LockOk 6 ((codes "e") ∷ [])) []
    ∷ entry (event.Step 6) (op.LockOk 6 []) []
    ∷ entry (event.Step 6) (op.Owned 6 1) []
    ∷ entry (event.Step 6) (op.SessionNew 6) []
    ∷ entry (event.Deliver 1) (op.Follower 6 1 2) []
    ∷ entry (event.Clock 42) (op.Clock 42) []
    ∷ entry (event.Step 5) (op.Evict 5 2) []
    ∷ entry (event.Step 5) (op.ProbeLate 5 3 0) []
    ∷ entry (event.Beat 1) (op.Beat 5 1) []
    ∷ entry (event.Clock 31) (op.Clock 31) []
    ∷ entry (event.Step 4) (op.ProbeWaiting 4) []
    ∷ entry (event.Beat 1) (op.Beat 4 1) []
    ∷ entry (event.Clock 30) (op.Clock 30) []
    ∷ entry (event.Step 3) (op.NoteOk 3) []
    ∷ entry (event.Step 3) (op.Ping 3 1) []
    ∷ entry (event.Step 3) (op.ProbeFresh 3) []
    ∷ entry (event.Beat 1) (op.Beat 3 1) []
    ∷ entry (event.Step 2) (op.AckOk 2) []
    ∷ entry (event.Step 2) (op.DoneOk 2 1) []
    ∷ entry (event.Step 2) (op.Reply 2 1 1) []
    ∷ entry (event.Step 2) (op.PublishOk 2 1) ((line.Tx (record { tx = 1; moment = 0; session = 1; k = 1; act = act.Create ((codes "e") ∷ []) [] false true })) ∷ [])
    ∷ entry (event.Step 2) (op.PutOk 2 1 ((codes "e") ∷ [])) []
    ∷ entry (event.Step 2) (op.PutOk 2 1 []) []
    ∷ entry (event.Step 2) (op.SweepOk 2 1 0) []
    ∷ entry (event.Step 2) (op.PendingYes 2 1) []
    ∷ entry (event.Step 2) (op.CommitSettled 2 1 1) []
    ∷ entry event.Leader (op.Leader 2 1) []
    ∷ entry (event.Step 1) (op.AckOk 1) []
    ∷ entry (event.Step 1) (op.CommitOk 1 1) []
    ∷ entry (event.Step 1) (op.Push 1 1) []
    ∷ entry (event.Step 1) (op.LockOk 1 ((codes "e") ∷ [])) []
    ∷ entry (event.Step 1) (op.LockOk 1 []) []
    ∷ entry (event.Step 1) (op.SessionNew 1) []
    ∷ entry (event.Deliver 1) (op.Follower 1 1 1) []
    ∷ entry (event.Client 1) (op.Send 1 1 1) []
    ∷ []

abbrev pub EvictionIsPlayed : Type 0
EvictionIsPlayed = played (plan_of deployed) events [] ≡ entries
