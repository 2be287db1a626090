-- A client creates a node and reads it. Each expected entry is copied from the printed history.
use Rattle.std.specs.Prelude.{◌≡◌, true, false, List, [], ◌∷◌, codes}
use Rattle.fk_print.specs.declared.entry.Entry.{Entry}
use Rattle.fk_print.specs.declared.event.Event.{Event}
use Rattle.fk_print.specs.declared.event.Event.TheVariants as event
use Rattle.fk_print.specs.declared.line.Act.TheVariants as act
use Rattle.fk_print.specs.declared.line.Line.TheVariants as line
use Rattle.fk_print.specs.declared.line.Shown.TheVariants as shown
use Rattle.fk_print.specs.declared.line.Verb.TheVariants as verb
use Rattle.fk_print.specs.declared.op.Op.TheVariants as op
use Rattle.fk_script.specs.declared.command.Command.TheVariants as command
use Rattle.fk_script.specs.declared.deployment.Deployment.{Deployment}
use Rattle.fk_spec.specs.Plan.{plan_of}
use Rattle.fk_spec.specs.Scenarios.{entry, played}

abbrev pub deployed : Deployment
deployed = record { config = record { lock = 10; beat = 30 }; clients = (record { name = (codes "a"); commands = ((command.Create (codes "/x") (codes "hi") false false true) ∷ (command.Get (codes "/x") false) ∷ []) } ∷ []); turns = []; scheduled = false }

abbrev pub events : List Event
events = ((event.Clock 11) ∷ (event.Client 1) ∷ (event.Deliver 1) ∷ (event.Step 1) ∷ (event.Step 1) ∷ (event.Step 1) ∷ (event.Step 1) ∷ (event.Step 1) ∷ (event.Step 1) ∷ event.Leader ∷ (event.Step 2) ∷ (event.Step 2) ∷ (event.Step 2) ∷ (event.Step 2) ∷ (event.Step 2) ∷ (event.Step 2) ∷ (event.Step 2) ∷ (event.Step 2) ∷ (event.Step 2) ∷ (event.Client 1) ∷ (event.Client 1) ∷ (event.Client 1) ∷ (event.Client 1) ∷ [])

-- the newest first
abbrev pub entries : List Entry
entries = entry (event.Client 1) (op.LookOk 1 2 1) ((line.Reply 1 2 verb.Get (shown.Got 1 (codes "hi") (record { czxid = 1; mzxid = 1; pzxid = 1; ctime = 11; mtime = 11; version = 0; cversion = 0; aversion = 0; owner = 0; length = 2; children = 0 }))) ∷ [])
    ∷ entry (event.Client 1) (op.Read 1 2 1) []
    ∷ entry (event.Client 1) (op.LookOk 1 1 1) ((line.Reply 1 1 verb.Create (shown.Created 1 ((codes "x") ∷ []))) ∷ [])
    ∷ entry (event.Client 1) (op.TakeDone 1 1 1) []
    ∷ entry (event.Step 2) (op.AckOk 2) []
    ∷ entry (event.Step 2) (op.DoneOk 2 1) []
    ∷ entry (event.Step 2) (op.Reply 2 1 1) []
    ∷ entry (event.Step 2) (op.PublishOk 2 1) ((line.Tx (record { tx = 1; moment = 11; session = 1; k = 1; act = act.Create ((codes "x") ∷ []) (codes "hi") false false })) ∷ [])
    ∷ entry (event.Step 2) (op.PutOk 2 1 ((codes "x") ∷ [])) []
    ∷ entry (event.Step 2) (op.PutOk 2 1 []) []
    ∷ entry (event.Step 2) (op.SweepOk 2 1 0) []
    ∷ entry (event.Step 2) (op.PendingYes 2 1) []
    ∷ entry (event.Step 2) (op.CommitSettled 2 1 1) []
    ∷ entry event.Leader (op.Leader 2 1) []
    ∷ entry (event.Step 1) (op.AckOk 1) []
    ∷ entry (event.Step 1) (op.CommitOk 1 1) []
    ∷ entry (event.Step 1) (op.Push 1 1) []
    ∷ entry (event.Step 1) (op.LockOk 1 ((codes "x") ∷ [])) []
    ∷ entry (event.Step 1) (op.LockOk 1 []) []
    ∷ entry (event.Step 1) (op.SessionNew 1) []
    ∷ entry (event.Deliver 1) (op.Follower 1 1 1) []
    ∷ entry (event.Client 1) (op.Send 1 1 1) []
    ∷ entry (event.Clock 11) (op.Clock 11) []
    ∷ []

abbrev pub CreateThenGetIsPlayed : Type 0
CreateThenGetIsPlayed = played (plan_of deployed) events [] ≡ entries
