-- A registration that a sweep has passed is made again. Each expected entry is copied from the printed history.
use Rattle.std.specs.Prelude.{◌≡◌, true, false, List, [], ◌∷◌, codes}
use Rattle.fk_print.specs.declared.entry.Entry.{Entry}
use Rattle.fk_print.specs.declared.event.Event.{Event}
use Rattle.fk_print.specs.declared.event.Event.TheVariants as event
use Rattle.fk_print.specs.declared.line.Act.TheVariants as act
use Rattle.fk_print.specs.declared.line.Line.TheVariants as line
use Rattle.fk_print.specs.declared.line.Shown.TheVariants as shown
use Rattle.fk_print.specs.declared.line.Verb.TheVariants as verb
use Rattle.fk_print.specs.declared.op.Op.TheVariants as op
use Rattle.fk_script.specs.declared.command.Command.TheVariants as command
use Rattle.fk_script.specs.declared.deployment.Deployment.{Deployment}
use Rattle.fk_script.specs.declared.deployment.Turn.TheVariants as turn
use Rattle.fk_spec.specs.Plan.{plan_of}
use Rattle.fk_spec.specs.Scenarios.{entry, played}

abbrev pub deployed : Deployment
deployed = record { config = record { lock = 10; beat = 30 }; clients = (record { name = (codes "a"); commands = ((command.Stat (codes "/x") true) ∷ []) } ∷ record { name = (codes "b"); commands = ((command.Create (codes "/x") [] false false true) ∷ []) } ∷ []); turns = ((turn.One (event.Client 1)) ∷ (turn.One (event.Client 1)) ∷ (turn.One (event.Client 2)) ∷ (turn.One (event.Deliver 2)) ∷ (turn.One (event.Step 1)) ∷ (turn.One (event.Step 1)) ∷ (turn.One (event.Step 1)) ∷ (turn.One (event.Step 1)) ∷ (turn.One (event.Step 1)) ∷ (turn.One (event.Step 1)) ∷ (turn.One event.Leader) ∷ (turn.One (event.Step 2)) ∷ (turn.One (event.Step 2)) ∷ (turn.One (event.Step 2)) ∷ (turn.One (event.Client 1)) ∷ (turn.One (event.Client 1)) ∷ (turn.One (event.Client 1)) ∷ (turn.One (event.Step 2)) ∷ (turn.One (event.Step 2)) ∷ (turn.One (event.Step 2)) ∷ (turn.One (event.Client 1)) ∷ (turn.One (event.Client 1)) ∷ (turn.One (event.Client 1)) ∷ (turn.One (event.Client 1)) ∷ []); scheduled = true }

abbrev pub events : List Event
events = ((event.Client 1) ∷ (event.Client 1) ∷ (event.Client 2) ∷ (event.Deliver 2) ∷ (event.Step 1) ∷ (event.Step 1) ∷ (event.Step 1) ∷ (event.Step 1) ∷ (event.Step 1) ∷ (event.Step 1) ∷ event.Leader ∷ (event.Step 2) ∷ (event.Step 2) ∷ (event.Step 2) ∷ (event.Client 1) ∷ (event.Client 1) ∷ (event.Client 1) ∷ (event.Step 2) ∷ (event.Step 2) ∷ (event.Step 2) ∷ (event.Client 1) ∷ (event.Client 1) ∷ (event.Client 1) ∷ (event.Client 1) ∷ (event.Crash 2) ∷ (event.Clock 11) ∷ event.Leader ∷ (event.Step 3) ∷ (event.Step 3) ∷ (event.Step 3) ∷ (event.Step 3) ∷ (event.Step 3) ∷ (event.Step 3) ∷ (event.Step 3) ∷ (event.Step 3) ∷ (event.Step 3) ∷ (event.Client 2) ∷ (event.Client 2) ∷ [])

-- the newest first
abbrev pub entries : List Entry
entries = entry (event.Client 2) (op.LookOk 2 1 1) ((line.Reply 2 1 verb.Create (shown.Created 1 ((codes "x") ∷ []))) ∷ [])
    ∷ entry (event.Client 2) (op.TakeDone 2 1 1) []
    ∷ entry (event.Step 3) (op.AckOk 3) []
    ∷ entry (event.Step 3) (op.DoneOk 3 1) []
    ∷ entry (event.Step 3) (op.Reply 3 2 1) []
    ∷ entry (event.Step 3) (op.PublishMiss 3 1 1) []
    ∷ entry (event.Step 3) (op.PutMiss 3 1 ((codes "x") ∷ []) 1) []
    ∷ entry (event.Step 3) (op.PutMiss 3 1 [] 1) []
    ∷ entry (event.Step 3) (op.SweepMiss 3 1 1 0) []
    ∷ entry (event.Step 3) (op.PendingYes 3 1) []
    ∷ entry (event.Step 3) (op.CommitSettled 3 1 1) []
    ∷ entry event.Leader (op.Leader 3 1) []
    ∷ entry (event.Clock 11) (op.Clock 11) []
    ∷ entry (event.Crash 2) (op.Crash 2) []
    ∷ entry (event.Client 1) (op.WatchSet 1 1 1) ((line.Reply 1 1 verb.Stat (shown.Stated 1 (record { czxid = 1; mzxid = 1; pzxid = 1; ctime = 0; mtime = 0; version = 0; cversion = 0; aversion = 0; owner = 0; length = 0; children = 0 }))) ∷ [])
    ∷ entry (event.Client 1) (op.LookOk 1 1 1) []
    ∷ entry (event.Client 1) (op.Read 1 1 1) []
    ∷ entry (event.Client 1) (op.WatchSwept 1 1 1) []
    ∷ entry (event.Step 2) (op.PublishOk 2 1) ((line.Tx (record { tx = 1; moment = 0; session = 2; k = 1; act = act.Create ((codes "x") ∷ []) [] false false })) ∷ [])
    ∷ entry (event.Step 2) (op.PutOk 2 1 ((codes "x") ∷ [])) []
    ∷ entry (event.Step 2) (op.PutOk 2 1 []) []
    ∷ entry (event.Client 1) (op.LookOk 1 1 0) []
    ∷ entry (event.Client 1) (op.Read 1 1 0) []
    ∷ entry (event.Client 1) (op.WatchSwept 1 1 1) []
    ∷ entry (event.Step 2) (op.SweepOk 2 1 0) []
    ∷ entry (event.Step 2) (op.PendingYes 2 1) []
    ∷ entry (event.Step 2) (op.CommitSettled 2 1 1) []
    ∷ entry event.Leader (op.Leader 2 1) []
    ∷ entry (event.Step 1) (op.AckOk 1) []
    ∷ entry (event.Step 1) (op.CommitOk 1 1) []
    ∷ entry (event.Step 1) (op.Push 1 1) []
    ∷ entry (event.Step 1) (op.LockOk 1 ((codes "x") ∷ [])) []
    ∷ entry (event.Step 1) (op.LockOk 1 []) []
    ∷ entry (event.Step 1) (op.SessionNew 1) []
    ∷ entry (event.Deliver 2) (op.Follower 1 2 1) []
    ∷ entry (event.Client 2) (op.Send 2 1 1) []
    ∷ entry (event.Client 1) (op.LookOk 1 1 0) []
    ∷ entry (event.Client 1) (op.Read 1 1 0) []
    ∷ []

abbrev pub RegistrationPassedIsPlayed : Type 0
RegistrationPassedIsPlayed = played (plan_of deployed) events [] ≡ entries
