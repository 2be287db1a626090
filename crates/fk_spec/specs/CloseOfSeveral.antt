-- A close removes the ephemeral nodes of its session. Each expected entry is copied from the printed history.
use Rattle.std.specs.Prelude.{◌≡◌, true, false, List, [], ◌∷◌, codes}
use Rattle.fk_base.specs.declared.code.Code.TheVariants as code
use Rattle.fk_print.specs.declared.entry.Entry.{Entry}
use Rattle.fk_print.specs.declared.event.Event.{Event}
use Rattle.fk_print.specs.declared.event.Event.TheVariants as event
use Rattle.fk_print.specs.declared.line.Act.TheVariants as act
use Rattle.fk_print.specs.declared.line.Line.TheVariants as line
use Rattle.fk_print.specs.declared.line.Shown.TheVariants as shown
use Rattle.fk_print.specs.declared.line.Verb.TheVariants as verb
use Rattle.fk_print.specs.declared.op.Op.TheVariants as op
use Rattle.fk_script.specs.declared.command.Command.TheVariants as command
use Rattle.fk_script.specs.declared.deployment.Deployment.{Deployment}
use Rattle.fk_spec.specs.Plan.{plan_of}
use Rattle.fk_spec.specs.Scenarios.{entry, played}

abbrev pub deployed : Deployment
deployed = record { config = record { lock = 10; beat = 30 }; clients = (record { name = (codes "a"); commands = ((command.Create (codes "/e") [] false true true) ∷ (command.Create (codes "/e/k") [] false false true) ∷ (command.Create (codes "/f") [] false true true) ∷ (command.Close) ∷ (command.Get (codes "/") false) ∷ []) } ∷ record { name = (codes "b"); commands = ((command.Ls (codes "/") false) ∷ []) } ∷ []); turns = []; scheduled = false }

abbrev pub events : List Event
events = ((event.Clock 11) ∷ (event.Client 1) ∷ (event.Deliver 1) ∷ (event.Step 1) ∷ (event.Step 1) ∷ (event.Step 1) ∷ (event.Step 1) ∷ (event.Step 1) ∷ (event.Step 1) ∷ event.Leader ∷ (event.Step 2) ∷ (event.Step 2) ∷ (event.Step 2) ∷ (event.Step 2) ∷ (event.Step 2) ∷ (event.Step 2) ∷ (event.Step 2) ∷ (event.Step 2) ∷ (event.Step 2) ∷ (event.Client 1) ∷ (event.Client 1) ∷ (event.Client 1) ∷ (event.Deliver 1) ∷ (event.Step 3) ∷ (event.Step 3) ∷ (event.Step 3) ∷ (event.Step 3) ∷ (event.Step 3) ∷ (event.Step 3) ∷ (event.Client 1) ∷ (event.Client 1) ∷ (event.Client 1) ∷ (event.Deliver 1) ∷ (event.Step 4) ∷ (event.Step 4) ∷ (event.Step 4) ∷ (event.Step 4) ∷ (event.Step 4) ∷ (event.Step 4) ∷ event.Leader ∷ (event.Step 5) ∷ (event.Step 5) ∷ (event.Step 5) ∷ (event.Step 5) ∷ (event.Step 5) ∷ (event.Step 5) ∷ (event.Step 5) ∷ (event.Step 5) ∷ (event.Step 5) ∷ (event.Client 1) ∷ (event.Client 1) ∷ (event.Client 1) ∷ (event.Deliver 1) ∷ (event.Step 6) ∷ (event.Step 6) ∷ (event.Step 6) ∷ (event.Step 6) ∷ (event.Step 6) ∷ (event.Step 6) ∷ (event.Step 6) ∷ (event.Step 6) ∷ event.Leader ∷ (event.Step 7) ∷ (event.Step 7) ∷ (event.Step 7) ∷ (event.Step 7) ∷ (event.Step 7) ∷ (event.Step 7) ∷ (event.Step 7) ∷ (event.Step 7) ∷ (event.Step 7) ∷ (event.Step 7) ∷ (event.Client 1) ∷ (event.Client 1) ∷ (event.Client 1) ∷ (event.Client 2) ∷ (event.Client 2) ∷ [])

-- the newest first
abbrev pub entries : List Entry
entries = entry (event.Client 2) (op.LookOk 2 1 3) ((line.Reply 2 1 verb.Ls (shown.Listed 3 [])) ∷ [])
    ∷ entry (event.Client 2) (op.Read 2 1 3) []
    ∷ entry (event.Client 1) (op.Local 1 5) ((line.Reply 1 5 verb.Get (shown.Refused code.SessionExpired 3 0)) ∷ [])
    ∷ entry (event.Client 1) (op.LookOk 1 4 3) ((line.Reply 1 4 verb.Close (shown.Done 3)) ∷ [])
    ∷ entry (event.Client 1) (op.TakeDone 1 4 3) []
    ∷ entry (event.Step 7) (op.AckOk 7) []
    ∷ entry (event.Step 7) (op.DoneOk 7 3) []
    ∷ entry (event.Step 7) (op.Reply 7 1 4) []
    ∷ entry (event.Step 7) (op.PublishOk 7 3) ((line.Tx (record { tx = 3; moment = 11; session = 1; k = 4; act = act.Close false (((codes "e") ∷ []) ∷ ((codes "f") ∷ []) ∷ []) })) ∷ [])
    ∷ entry (event.Step 7) (op.PutOk 7 3 ((codes "f") ∷ [])) []
    ∷ entry (event.Step 7) (op.PutOk 7 3 ((codes "e") ∷ [])) []
    ∷ entry (event.Step 7) (op.PutOk 7 3 []) []
    ∷ entry (event.Step 7) (op.SweepOk 7 3 0) []
    ∷ entry (event.Step 7) (op.PendingYes 7 3) []
    ∷ entry (event.Step 7) (op.CommitSettled 7 3 4) []
    ∷ entry event.Leader (op.Leader 7 3) []
    ∷ entry (event.Step 6) (op.AckOk 6) []
    ∷ entry (event.Step 6) (op.CommitOk 6 3) []
    ∷ entry (event.Step 6) (op.Push 6 3) []
    ∷ entry (event.Step 6) (op.LockOk 6 ((codes "f") ∷ [])) []
    ∷ entry (event.Step 6) (op.LockOk 6 ((codes "e") ∷ [])) []
    ∷ entry (event.Step 6) (op.LockOk 6 []) []
    ∷ entry (event.Step 6) (op.Owned 6 2) []
    ∷ entry (event.Step 6) (op.SessionNew 6) []
    ∷ entry (event.Deliver 1) (op.Follower 6 1 4) []
    ∷ entry (event.Client 1) (op.Send 1 4 4) []
    ∷ entry (event.Client 1) (op.LookOk 1 3 2) ((line.Reply 1 3 verb.Create (shown.Created 2 ((codes "f") ∷ []))) ∷ [])
    ∷ entry (event.Client 1) (op.TakeDone 1 3 2) []
    ∷ entry (event.Step 5) (op.AckOk 5) []
    ∷ entry (event.Step 5) (op.DoneOk 5 2) []
    ∷ entry (event.Step 5) (op.Reply 5 1 3) []
    ∷ entry (event.Step 5) (op.PublishOk 5 2) ((line.Tx (record { tx = 2; moment = 11; session = 1; k = 3; act = act.Create ((codes "f") ∷ []) [] false true })) ∷ [])
    ∷ entry (event.Step 5) (op.PutOk 5 2 ((codes "f") ∷ [])) []
    ∷ entry (event.Step 5) (op.PutOk 5 2 []) []
    ∷ entry (event.Step 5) (op.SweepOk 5 2 0) []
    ∷ entry (event.Step 5) (op.PendingYes 5 2) []
    ∷ entry (event.Step 5) (op.CommitSettled 5 2 3) []
    ∷ entry event.Leader (op.Leader 5 2) []
    ∷ entry (event.Step 4) (op.AckOk 4) []
    ∷ entry (event.Step 4) (op.CommitOk 4 2) []
    ∷ entry (event.Step 4) (op.Push 4 2) []
    ∷ entry (event.Step 4) (op.LockOk 4 ((codes "f") ∷ [])) []
    ∷ entry (event.Step 4) (op.LockOk 4 []) []
    ∷ entry (event.Step 4) (op.SessionNew 4) []
    ∷ entry (event.Deliver 1) (op.Follower 4 1 3) []
    ∷ entry (event.Client 1) (op.Send 1 3 3) []
    ∷ entry (event.Client 1) (op.LookOk 1 2 1) ((line.Reply 1 2 verb.Create (shown.Refused code.NoChildrenForEphemerals 1 0)) ∷ [])
    ∷ entry (event.Client 1) (op.TakeRefused 1 2) []
    ∷ entry (event.Step 3) (op.AckOk 3) []
    ∷ entry (event.Step 3) (op.Reply 3 1 2) []
    ∷ entry (event.Step 3) (op.RefuseOk 3 code.NoChildrenForEphemerals 0 1) []
    ∷ entry (event.Step 3) (op.LockOk 3 ((codes "e") ∷ (codes "k") ∷ [])) []
    ∷ entry (event.Step 3) (op.LockOk 3 ((codes "e") ∷ [])) []
    ∷ entry (event.Step 3) (op.SessionNew 3) []
    ∷ entry (event.Deliver 1) (op.Follower 3 1 2) []
    ∷ entry (event.Client 1) (op.Send 1 2 2) []
    ∷ entry (event.Client 1) (op.LookOk 1 1 1) ((line.Reply 1 1 verb.Create (shown.Created 1 ((codes "e") ∷ []))) ∷ [])
    ∷ entry (event.Client 1) (op.TakeDone 1 1 1) []
    ∷ entry (event.Step 2) (op.AckOk 2) []
    ∷ entry (event.Step 2) (op.DoneOk 2 1) []
    ∷ entry (event.Step 2) (op.Reply 2 1 1) []
    ∷ entry (event.Step 2) (op.PublishOk 2 1) ((line.Tx (record { tx = 1; moment = 11; session = 1; k = 1; act = act.Create ((codes "e") ∷ []) [] false true })) ∷ [])
    ∷ entry (event.Step 2) (op.PutOk 2 1 ((codes "e") ∷ [])) []
    ∷ entry (event.Step 2) (op.PutOk 2 1 []) []
    ∷ entry (event.Step 2) (op.SweepOk 2 1 0) []
    ∷ entry (event.Step 2) (op.PendingYes 2 1) []
    ∷ entry (event.Step 2) (op.CommitSettled 2 1 1) []
    ∷ entry event.Leader (op.Leader 2 1) []
    ∷ entry (event.Step 1) (op.AckOk 1) []
    ∷ entry (event.Step 1) (op.CommitOk 1 1) []
    ∷ entry (event.Step 1) (op.Push 1 1) []
    ∷ entry (event.Step 1) (op.LockOk 1 ((codes "e") ∷ [])) []
    ∷ entry (event.Step 1) (op.LockOk 1 []) []
    ∷ entry (event.Step 1) (op.SessionNew 1) []
    ∷ entry (event.Deliver 1) (op.Follower 1 1 1) []
    ∷ entry (event.Client 1) (op.Send 1 1 1) []
    ∷ entry (event.Clock 11) (op.Clock 11) []
    ∷ []

abbrev pub CloseOfSeveralIsPlayed : Type 0
CloseOfSeveralIsPlayed = played (plan_of deployed) events [] ≡ entries
