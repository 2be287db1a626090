-- A client is told of its own change before the reply to it. Each expected entry is copied from the printed history.
use Rattle.std.specs.Prelude.{◌≡◌, negsuc, true, false, List, [], ◌∷◌, codes}
use Rattle.fk_tree.specs.declared.change.Change.TheVariants as change
use Rattle.fk_tree.specs.declared.change.Kind.TheVariants as kind
use Rattle.fk_print.specs.declared.entry.Entry.{Entry}
use Rattle.fk_print.specs.declared.event.Event.{Event}
use Rattle.fk_print.specs.declared.event.Event.TheVariants as event
use Rattle.fk_print.specs.declared.line.Act.TheVariants as act
use Rattle.fk_print.specs.declared.line.Line.TheVariants as line
use Rattle.fk_print.specs.declared.line.Shown.TheVariants as shown
use Rattle.fk_print.specs.declared.line.Verb.TheVariants as verb
use Rattle.fk_print.specs.declared.op.Op.TheVariants as op
use Rattle.fk_script.specs.declared.command.Command.TheVariants as command
use Rattle.fk_script.specs.declared.deployment.Deployment.{Deployment}
use Rattle.fk_spec.specs.Plan.{plan_of}
use Rattle.fk_spec.specs.Scenarios.{entry, played}

abbrev pub deployed : Deployment
deployed = record { config = record { lock = 10; beat = 30 }; clients = (record { name = (codes "a"); commands = ((command.Create (codes "/x") (codes "0") false false true) ∷ (command.Get (codes "/x") true) ∷ (command.Set (codes "/x") (codes "1") (negsuc 0) true) ∷ []) } ∷ []); turns = []; scheduled = false }

abbrev pub events : List Event
events = ((event.Clock 11) ∷ (event.Client 1) ∷ (event.Deliver 1) ∷ (event.Step 1) ∷ (event.Step 1) ∷ (event.Step 1) ∷ (event.Step 1) ∷ (event.Step 1) ∷ (event.Step 1) ∷ event.Leader ∷ (event.Step 2) ∷ (event.Step 2) ∷ (event.Step 2) ∷ (event.Step 2) ∷ (event.Step 2) ∷ (event.Step 2) ∷ (event.Step 2) ∷ (event.Step 2) ∷ (event.Step 2) ∷ (event.Client 1) ∷ (event.Client 1) ∷ (event.Client 1) ∷ (event.Client 1) ∷ (event.Client 1) ∷ (event.Client 1) ∷ (event.Deliver 1) ∷ (event.Step 3) ∷ (event.Step 3) ∷ (event.Step 3) ∷ (event.Step 3) ∷ (event.Step 3) ∷ event.Leader ∷ (event.Step 4) ∷ (event.Step 4) ∷ (event.Step 4) ∷ (event.Step 4) ∷ (event.Step 4) ∷ (event.Step 4) ∷ (event.Step 4) ∷ (event.Step 4) ∷ (event.Step 4) ∷ event.Watch ∷ (event.Step 5) ∷ (event.Step 5) ∷ (event.Step 5) ∷ (event.Client 1) ∷ (event.Client 1) ∷ (event.Client 1) ∷ [])

-- the newest first
abbrev pub entries : List Entry
entries = entry (event.Client 1) (op.LookOk 1 3 2) ((line.Reply 1 3 verb.Set (shown.Version 2 1)) ∷ [])
    ∷ entry (event.Client 1) (op.TakeWatch 1 1) ((line.Notice 1 2 kind.Data change.Changed ((codes "x") ∷ [])) ∷ [])
    ∷ entry (event.Client 1) (op.TakeDone 1 2 2) []
    ∷ entry (event.Step 5) (op.AckOk 5) []
    ∷ entry (event.Step 5) (op.Told 5 2) []
    ∷ entry (event.Step 5) (op.Tell 5 1 1) []
    ∷ entry event.Watch (op.Teller 5 1) []
    ∷ entry (event.Step 4) (op.AckOk 4) []
    ∷ entry (event.Step 4) (op.DoneOk 4 2) []
    ∷ entry (event.Step 4) (op.Reply 4 1 2) []
    ∷ entry (event.Step 4) (op.Notify 4 2 1) []
    ∷ entry (event.Step 4) (op.PublishOk 4 2) ((line.Tx (record { tx = 2; moment = 11; session = 1; k = 2; act = act.Set ((codes "x") ∷ []) (codes "1") (negsuc 0) })) ∷ [])
    ∷ entry (event.Step 4) (op.PutOk 4 2 ((codes "x") ∷ [])) []
    ∷ entry (event.Step 4) (op.SweepOk 4 2 1) []
    ∷ entry (event.Step 4) (op.PendingYes 4 2) []
    ∷ entry (event.Step 4) (op.CommitSettled 4 2 2) []
    ∷ entry event.Leader (op.Leader 4 2) []
    ∷ entry (event.Step 3) (op.AckOk 3) []
    ∷ entry (event.Step 3) (op.CommitOk 3 2) []
    ∷ entry (event.Step 3) (op.Push 3 2) []
    ∷ entry (event.Step 3) (op.LockOk 3 ((codes "x") ∷ [])) []
    ∷ entry (event.Step 3) (op.SessionNew 3) []
    ∷ entry (event.Deliver 1) (op.Follower 3 1 2) []
    ∷ entry (event.Client 1) (op.Send 1 3 2) []
    ∷ entry (event.Client 1) (op.WatchSet 1 2 1) ((line.Reply 1 2 verb.Get (shown.Got 1 (codes "0") (record { czxid = 1; mzxid = 1; pzxid = 1; ctime = 11; mtime = 11; version = 0; cversion = 0; aversion = 0; owner = 0; length = 1; children = 0 }))) ∷ [])
    ∷ entry (event.Client 1) (op.LookOk 1 2 1) []
    ∷ entry (event.Client 1) (op.Read 1 2 1) []
    ∷ entry (event.Client 1) (op.LookOk 1 1 1) ((line.Reply 1 1 verb.Create (shown.Created 1 ((codes "x") ∷ []))) ∷ [])
    ∷ entry (event.Client 1) (op.TakeDone 1 1 1) []
    ∷ entry (event.Step 2) (op.AckOk 2) []
    ∷ entry (event.Step 2) (op.DoneOk 2 1) []
    ∷ entry (event.Step 2) (op.Reply 2 1 1) []
    ∷ entry (event.Step 2) (op.PublishOk 2 1) ((line.Tx (record { tx = 1; moment = 11; session = 1; k = 1; act = act.Create ((codes "x") ∷ []) (codes "0") false false })) ∷ [])
    ∷ entry (event.Step 2) (op.PutOk 2 1 ((codes "x") ∷ [])) []
    ∷ entry (event.Step 2) (op.PutOk 2 1 []) []
    ∷ entry (event.Step 2) (op.SweepOk 2 1 0) []
    ∷ entry (event.Step 2) (op.PendingYes 2 1) []
    ∷ entry (event.Step 2) (op.CommitSettled 2 1 1) []
    ∷ entry event.Leader (op.Leader 2 1) []
    ∷ entry (event.Step 1) (op.AckOk 1) []
    ∷ entry (event.Step 1) (op.CommitOk 1 1) []
    ∷ entry (event.Step 1) (op.Push 1 1) []
    ∷ entry (event.Step 1) (op.LockOk 1 ((codes "x") ∷ [])) []
    ∷ entry (event.Step 1) (op.LockOk 1 []) []
    ∷ entry (event.Step 1) (op.SessionNew 1) []
    ∷ entry (event.Deliver 1) (op.Follower 1 1 1) []
    ∷ entry (event.Client 1) (op.Send 1 1 1) []
    ∷ entry (event.Clock 11) (op.Clock 11) []
    ∷ []

abbrev pub OwnWatchIsPlayed : Type 0
OwnWatchIsPlayed = played (plan_of deployed) events [] ≡ entries
