-- A follower stops between its push and its commit, and a leader commits it. Each expected entry is copied from the printed history.
use Rattle.std.specs.Prelude.{◌≡◌, true, false, List, [], ◌∷◌, codes}
use Rattle.fk_print.specs.declared.entry.Entry.{Entry}
use Rattle.fk_print.specs.declared.event.Event.{Event}
use Rattle.fk_print.specs.declared.event.Event.TheVariants as event
use Rattle.fk_print.specs.declared.line.Act.TheVariants as act
use Rattle.fk_print.specs.declared.line.Line.TheVariants as line
use Rattle.fk_print.specs.declared.line.Shown.TheVariants as shown
use Rattle.fk_print.specs.declared.line.Verb.TheVariants as verb
use Rattle.fk_print.specs.declared.op.Op.TheVariants as op
use Rattle.fk_script.specs.declared.command.Command.TheVariants as command
use Rattle.fk_script.specs.declared.deployment.Deployment.{Deployment}
use Rattle.fk_script.specs.declared.deployment.Turn.TheVariants as turn
use Rattle.fk_spec.specs.Plan.{plan_of}
use Rattle.fk_spec.specs.Scenarios.{entry, played}

abbrev pub deployed : Deployment
deployed = record { config = record { lock = 10; beat = 30 }; clients = (record { name = (codes "a"); commands = ((command.Create (codes "/x") [] false false true) ∷ []) } ∷ []); turns = ((turn.One (event.Client 1)) ∷ (turn.One (event.Deliver 1)) ∷ (turn.One (event.Step 1)) ∷ (turn.One (event.Step 1)) ∷ (turn.One (event.Step 1)) ∷ (turn.One (event.Step 1)) ∷ (turn.One (event.Crash 1)) ∷ (turn.One event.Leader) ∷ (turn.One (event.Step 2)) ∷ (turn.One (event.Deliver 1)) ∷ (turn.One (event.Step 3)) ∷ (turn.One (event.Step 3)) ∷ []); scheduled = true }

abbrev pub events : List Event
events = ((event.Client 1) ∷ (event.Deliver 1) ∷ (event.Step 1) ∷ (event.Step 1) ∷ (event.Step 1) ∷ (event.Step 1) ∷ (event.Crash 1) ∷ event.Leader ∷ (event.Step 2) ∷ (event.Deliver 1) ∷ (event.Step 3) ∷ (event.Step 3) ∷ (event.Crash 2) ∷ (event.Clock 11) ∷ event.Leader ∷ (event.Step 4) ∷ (event.Step 4) ∷ (event.Step 4) ∷ (event.Step 4) ∷ (event.Step 4) ∷ (event.Step 4) ∷ (event.Step 4) ∷ (event.Step 4) ∷ (event.Step 4) ∷ (event.Client 1) ∷ (event.Client 1) ∷ [])

-- the newest first
abbrev pub entries : List Entry
entries = entry (event.Client 1) (op.LookOk 1 1 1) ((line.Reply 1 1 verb.Create (shown.Created 1 ((codes "x") ∷ []))) ∷ [])
    ∷ entry (event.Client 1) (op.TakeDone 1 1 1) []
    ∷ entry (event.Step 4) (op.AckOk 4) []
    ∷ entry (event.Step 4) (op.DoneOk 4 1) []
    ∷ entry (event.Step 4) (op.Reply 4 1 1) []
    ∷ entry (event.Step 4) (op.PublishOk 4 1) ((line.Tx (record { tx = 1; moment = 0; session = 1; k = 1; act = act.Create ((codes "x") ∷ []) [] false false })) ∷ [])
    ∷ entry (event.Step 4) (op.PutOk 4 1 ((codes "x") ∷ [])) []
    ∷ entry (event.Step 4) (op.PutOk 4 1 []) []
    ∷ entry (event.Step 4) (op.SweepOk 4 1 0) []
    ∷ entry (event.Step 4) (op.PendingYes 4 1) []
    ∷ entry (event.Step 4) (op.CommitSettled 4 1 1) []
    ∷ entry event.Leader (op.Leader 4 1) []
    ∷ entry (event.Clock 11) (op.Clock 11) []
    ∷ entry (event.Crash 2) (op.Crash 2) []
    ∷ entry (event.Step 3) (op.AckOk 3) []
    ∷ entry (event.Step 3) (op.SessionApplied 3) []
    ∷ entry (event.Deliver 1) (op.Follower 3 1 1) []
    ∷ entry (event.Step 2) (op.CommitOk 2 1) []
    ∷ entry event.Leader (op.Leader 2 1) []
    ∷ entry (event.Crash 1) (op.Crash 1) []
    ∷ entry (event.Step 1) (op.Push 1 1) []
    ∷ entry (event.Step 1) (op.LockOk 1 ((codes "x") ∷ [])) []
    ∷ entry (event.Step 1) (op.LockOk 1 []) []
    ∷ entry (event.Step 1) (op.SessionNew 1) []
    ∷ entry (event.Deliver 1) (op.Follower 1 1 1) []
    ∷ entry (event.Client 1) (op.Send 1 1 1) []
    ∷ []

abbrev pub CrashBeforeCommitIsPlayed : Type 0
CrashBeforeCommitIsPlayed = played (plan_of deployed) events [] ≡ entries
