-- A read is held until its client has been told of a watch that fired. Each expected entry is copied from the printed history.
use Rattle.std.specs.Prelude.{◌≡◌, negsuc, true, false, List, [], ◌∷◌, codes}
use Rattle.fk_tree.specs.declared.change.Change.TheVariants as change
use Rattle.fk_tree.specs.declared.change.Kind.TheVariants as kind
use Rattle.fk_print.specs.declared.entry.Entry.{Entry}
use Rattle.fk_print.specs.declared.event.Event.{Event}
use Rattle.fk_print.specs.declared.event.Event.TheVariants as event
use Rattle.fk_print.specs.declared.line.Act.TheVariants as act
use Rattle.fk_print.specs.declared.line.Line.TheVariants as line
use Rattle.fk_print.specs.declared.line.Shown.TheVariants as shown
use Rattle.fk_print.specs.declared.line.Verb.TheVariants as verb
use Rattle.fk_print.specs.declared.op.Op.TheVariants as op
use Rattle.fk_script.specs.declared.command.Command.TheVariants as command
use Rattle.fk_script.specs.declared.deployment.Deployment.{Deployment}
use Rattle.fk_script.specs.declared.deployment.Turn.TheVariants as turn
use Rattle.fk_spec.specs.Plan.{plan_of}
use Rattle.fk_spec.specs.Scenarios.{entry, played}

abbrev pub deployed : Deployment
deployed = record { config = record { lock = 10; beat = 30 }; clients = (record { name = (codes "a"); commands = ((command.Get (codes "/") true) ∷ (command.Get (codes "/") false) ∷ []) } ∷ record { name = (codes "b"); commands = ((command.Set (codes "/") (codes "1") (negsuc 0) true) ∷ []) } ∷ []); turns = ((turn.One (event.Client 1)) ∷ (turn.One (event.Client 1)) ∷ (turn.One (event.Client 1)) ∷ (turn.One (event.Client 2)) ∷ (turn.One (event.Deliver 2)) ∷ (turn.One (event.Step 1)) ∷ (turn.One (event.Step 1)) ∷ (turn.One (event.Step 1)) ∷ (turn.One (event.Step 1)) ∷ (turn.One (event.Step 1)) ∷ (turn.One event.Leader) ∷ (turn.One (event.Step 2)) ∷ (turn.One (event.Step 2)) ∷ (turn.One (event.Step 2)) ∷ (turn.One (event.Step 2)) ∷ (turn.One (event.Step 2)) ∷ (turn.One (event.Step 2)) ∷ (turn.One (event.Client 1)) ∷ (turn.One (event.Client 1)) ∷ (turn.One event.Watch) ∷ (turn.One (event.Step 3)) ∷ (turn.One (event.Client 1)) ∷ (turn.One (event.Client 1)) ∷ (turn.One (event.Client 1)) ∷ []); scheduled = true }

abbrev pub events : List Event
events = ((event.Client 1) ∷ (event.Client 1) ∷ (event.Client 1) ∷ (event.Client 2) ∷ (event.Deliver 2) ∷ (event.Step 1) ∷ (event.Step 1) ∷ (event.Step 1) ∷ (event.Step 1) ∷ (event.Step 1) ∷ event.Leader ∷ (event.Step 2) ∷ (event.Step 2) ∷ (event.Step 2) ∷ (event.Step 2) ∷ (event.Step 2) ∷ (event.Step 2) ∷ (event.Client 1) ∷ (event.Client 1) ∷ event.Watch ∷ (event.Step 3) ∷ (event.Client 1) ∷ (event.Client 1) ∷ (event.Client 1) ∷ (event.Crash 2) ∷ (event.Crash 3) ∷ (event.Clock 11) ∷ event.Watch ∷ (event.Step 4) ∷ (event.Step 4) ∷ (event.Step 4) ∷ event.Leader ∷ (event.Step 5) ∷ (event.Step 5) ∷ (event.Step 5) ∷ (event.Step 5) ∷ (event.Step 5) ∷ (event.Step 5) ∷ (event.Step 5) ∷ (event.Step 5) ∷ (event.Client 1) ∷ (event.Client 2) ∷ (event.Client 2) ∷ [])

-- the newest first
abbrev pub entries : List Entry
entries = entry (event.Client 2) (op.LookOk 2 1 1) ((line.Reply 2 1 verb.Set (shown.Version 1 1)) ∷ [])
    ∷ entry (event.Client 2) (op.TakeDone 2 1 1) []
    ∷ entry (event.Client 1) (op.TakeWatch 1 1) []
    ∷ entry (event.Step 5) (op.AckOk 5) []
    ∷ entry (event.Step 5) (op.DoneOk 5 1) []
    ∷ entry (event.Step 5) (op.Reply 5 2 1) []
    ∷ entry (event.Step 5) (op.PublishMiss 5 1 1) []
    ∷ entry (event.Step 5) (op.PutMiss 5 1 [] 1) []
    ∷ entry (event.Step 5) (op.SweepMiss 5 1 1 0) []
    ∷ entry (event.Step 5) (op.PendingYes 5 1) []
    ∷ entry (event.Step 5) (op.CommitSettled 5 1 1) []
    ∷ entry event.Leader (op.Leader 5 1) []
    ∷ entry (event.Step 4) (op.AckOk 4) []
    ∷ entry (event.Step 4) (op.Told 4 1) []
    ∷ entry (event.Step 4) (op.Tell 4 1 1) []
    ∷ entry event.Watch (op.Teller 4 1) []
    ∷ entry (event.Clock 11) (op.Clock 11) []
    ∷ entry (event.Crash 3) (op.Crash 3) []
    ∷ entry (event.Crash 2) (op.Crash 2) []
    ∷ entry (event.Client 1) (op.LookOk 1 2 1) ((line.Reply 1 2 verb.Get (shown.Got 1 (codes "1") (record { czxid = 0; mzxid = 1; pzxid = 0; ctime = 0; mtime = 0; version = 1; cversion = 0; aversion = 0; owner = 0; length = 1; children = 0 }))) ∷ [])
    ∷ entry (event.Client 1) (op.Read 1 2 1) []
    ∷ entry (event.Client 1) (op.TakeWatch 1 1) ((line.Notice 1 1 kind.Data change.Changed []) ∷ [])
    ∷ entry (event.Step 3) (op.Tell 3 1 1) []
    ∷ entry event.Watch (op.Teller 3 1) []
    ∷ entry (event.Client 1) (op.LookHeld 1 2 1 1) []
    ∷ entry (event.Client 1) (op.Read 1 2 1) []
    ∷ entry (event.Step 2) (op.Notify 2 1 1) []
    ∷ entry (event.Step 2) (op.PublishOk 2 1) ((line.Tx (record { tx = 1; moment = 0; session = 2; k = 1; act = act.Set [] (codes "1") (negsuc 0) })) ∷ [])
    ∷ entry (event.Step 2) (op.PutOk 2 1 []) []
    ∷ entry (event.Step 2) (op.SweepOk 2 1 1) []
    ∷ entry (event.Step 2) (op.PendingYes 2 1) []
    ∷ entry (event.Step 2) (op.CommitSettled 2 1 1) []
    ∷ entry event.Leader (op.Leader 2 1) []
    ∷ entry (event.Step 1) (op.AckOk 1) []
    ∷ entry (event.Step 1) (op.CommitOk 1 1) []
    ∷ entry (event.Step 1) (op.Push 1 1) []
    ∷ entry (event.Step 1) (op.LockOk 1 []) []
    ∷ entry (event.Step 1) (op.SessionNew 1) []
    ∷ entry (event.Deliver 2) (op.Follower 1 2 1) []
    ∷ entry (event.Client 2) (op.Send 2 1 1) []
    ∷ entry (event.Client 1) (op.WatchSet 1 1 1) ((line.Reply 1 1 verb.Get (shown.Got 0 [] (record { czxid = 0; mzxid = 0; pzxid = 0; ctime = 0; mtime = 0; version = 0; cversion = 0; aversion = 0; owner = 0; length = 0; children = 0 }))) ∷ [])
    ∷ entry (event.Client 1) (op.LookOk 1 1 0) []
    ∷ entry (event.Client 1) (op.Read 1 1 0) []
    ∷ []

abbrev pub ReadHeldIsPlayed : Type 0
ReadHeldIsPlayed = played (plan_of deployed) events [] ≡ entries
