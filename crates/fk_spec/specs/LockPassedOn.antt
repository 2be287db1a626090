-- A lock runs out and passes on: its first holder is told that it was lost. Each expected entry is copied from the printed history.
use Rattle.std.specs.Prelude.{◌≡◌, true, false, List, [], ◌∷◌, codes}
use Rattle.fk_print.specs.declared.entry.Entry.{Entry}
use Rattle.fk_print.specs.declared.event.Event.{Event}
use Rattle.fk_print.specs.declared.event.Event.TheVariants as event
use Rattle.fk_print.specs.declared.line.Act.TheVariants as act
use Rattle.fk_print.specs.declared.line.Line.TheVariants as line
use Rattle.fk_print.specs.declared.line.Shown.TheVariants as shown
use Rattle.fk_print.specs.declared.line.Verb.TheVariants as verb
use Rattle.fk_print.specs.declared.op.Op.TheVariants as op
use Rattle.fk_script.specs.declared.command.Command.TheVariants as command
use Rattle.fk_script.specs.declared.deployment.Deployment.{Deployment}
use Rattle.fk_script.specs.declared.deployment.Turn.TheVariants as turn
use Rattle.fk_spec.specs.Plan.{plan_of}
use Rattle.fk_spec.specs.Scenarios.{entry, played}

abbrev pub deployed : Deployment
deployed = record { config = record { lock = 10; beat = 30 }; clients = (record { name = (codes "a"); commands = ((command.Create (codes "/x") [] false false true) ∷ []) } ∷ record { name = (codes "b"); commands = ((command.Create (codes "/y") [] false false true) ∷ []) } ∷ []); turns = ((turn.One (event.Client 1)) ∷ (turn.One (event.Deliver 1)) ∷ (turn.One (event.Step 1)) ∷ (turn.One (event.Step 1)) ∷ (turn.One (event.Step 1)) ∷ (turn.One (event.Step 1)) ∷ (turn.One (event.Client 2)) ∷ (turn.One (event.Deliver 2)) ∷ (turn.One (event.Step 2)) ∷ (turn.One (event.Clock 11)) ∷ (turn.One (event.Step 2)) ∷ (turn.One (event.Step 1)) ∷ (turn.One (event.Step 1)) ∷ (turn.One (event.Step 1)) ∷ (turn.One (event.Step 1)) ∷ (turn.One (event.Client 1)) ∷ []); scheduled = true }

abbrev pub events : List Event
events = ((event.Client 1) ∷ (event.Deliver 1) ∷ (event.Step 1) ∷ (event.Step 1) ∷ (event.Step 1) ∷ (event.Step 1) ∷ (event.Client 2) ∷ (event.Deliver 2) ∷ (event.Step 2) ∷ (event.Clock 11) ∷ (event.Step 2) ∷ (event.Step 1) ∷ (event.Step 1) ∷ (event.Step 1) ∷ (event.Step 1) ∷ (event.Client 1) ∷ (event.Crash 2) ∷ (event.Clock 22) ∷ event.Leader ∷ (event.Step 3) ∷ (event.Step 3) ∷ (event.Step 3) ∷ (event.Step 3) ∷ (event.Deliver 2) ∷ (event.Step 4) ∷ (event.Step 4) ∷ (event.Step 4) ∷ (event.Step 4) ∷ (event.Step 4) ∷ (event.Step 4) ∷ event.Leader ∷ (event.Step 5) ∷ (event.Step 5) ∷ (event.Step 5) ∷ (event.Step 5) ∷ (event.Step 5) ∷ (event.Step 5) ∷ (event.Step 5) ∷ (event.Step 5) ∷ (event.Step 5) ∷ (event.Client 2) ∷ (event.Client 2) ∷ [])

-- the newest first
abbrev pub entries : List Entry
entries = entry (event.Client 2) (op.LookOk 2 1 2) ((line.Reply 2 1 verb.Create (shown.Created 2 ((codes "y") ∷ []))) ∷ [])
    ∷ entry (event.Client 2) (op.TakeDone 2 1 2) []
    ∷ entry (event.Step 5) (op.AckOk 5) []
    ∷ entry (event.Step 5) (op.DoneOk 5 2) []
    ∷ entry (event.Step 5) (op.Reply 5 2 1) []
    ∷ entry (event.Step 5) (op.PublishOk 5 2) ((line.Tx (record { tx = 2; moment = 22; session = 2; k = 1; act = act.Create ((codes "y") ∷ []) [] false false })) ∷ [])
    ∷ entry (event.Step 5) (op.PutOk 5 2 ((codes "y") ∷ [])) []
    ∷ entry (event.Step 5) (op.PutOk 5 2 []) []
    ∷ entry (event.Step 5) (op.SweepOk 5 2 0) []
    ∷ entry (event.Step 5) (op.PendingYes 5 2) []
    ∷ entry (event.Step 5) (op.CommitSettled 5 2 1) []
    ∷ entry event.Leader (op.Leader 5 2) []
    ∷ entry (event.Step 4) (op.AckOk 4) []
    ∷ entry (event.Step 4) (op.CommitOk 4 2) []
    ∷ entry (event.Step 4) (op.Push 4 2) []
    ∷ entry (event.Step 4) (op.LockOk 4 ((codes "y") ∷ [])) []
    ∷ entry (event.Step 4) (op.LockOk 4 []) []
    ∷ entry (event.Step 4) (op.SessionNew 4) []
    ∷ entry (event.Deliver 2) (op.Follower 4 2 1) []
    ∷ entry (event.Step 3) (op.AckOk 3) []
    ∷ entry (event.Step 3) (op.DropOk 3 1) []
    ∷ entry (event.Step 3) (op.PendingNo 3 1) []
    ∷ entry (event.Step 3) (op.CommitSettled 3 1 1) []
    ∷ entry event.Leader (op.Leader 3 1) []
    ∷ entry (event.Clock 22) (op.Clock 22) []
    ∷ entry (event.Crash 2) (op.Crash 2) []
    ∷ entry (event.Client 1) (op.TakeLost 1 1) ((line.Reply 1 1 verb.Create (shown.Lost [] 0 2 11)) ∷ [])
    ∷ entry (event.Step 1) (op.AckOk 1) []
    ∷ entry (event.Step 1) (op.Reply 1 1 1) []
    ∷ entry (event.Step 1) (op.LostOk 1) []
    ∷ entry (event.Step 1) (op.CommitLock 1 1 [] 2 11) []
    ∷ entry (event.Step 2) (op.LockOk 2 []) []
    ∷ entry (event.Clock 11) (op.Clock 11) []
    ∷ entry (event.Step 2) (op.SessionNew 2) []
    ∷ entry (event.Deliver 2) (op.Follower 2 2 1) []
    ∷ entry (event.Client 2) (op.Send 2 1 1) []
    ∷ entry (event.Step 1) (op.Push 1 1) []
    ∷ entry (event.Step 1) (op.LockOk 1 ((codes "x") ∷ [])) []
    ∷ entry (event.Step 1) (op.LockOk 1 []) []
    ∷ entry (event.Step 1) (op.SessionNew 1) []
    ∷ entry (event.Deliver 1) (op.Follower 1 1 1) []
    ∷ entry (event.Client 1) (op.Send 1 1 1) []
    ∷ []

abbrev pub LockPassedOnIsPlayed : Type 0
LockPassedOnIsPlayed = played (plan_of deployed) events [] ≡ entries
