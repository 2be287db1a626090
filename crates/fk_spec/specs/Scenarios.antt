-- Worked runs: what the events of a drain give by the rules. Each expected entry is copied from the
-- printed history of the run, never computed.
use Rattle.std.specs.Prelude.{◌≡◌, ℕ, true, false, List, [], ◌∷◌, codes}
use Rattle.fk_base.specs.declared.code.Code.TheVariants as code
use Rattle.fk_print.specs.declared.entry.Entry.{Entry}
use Rattle.fk_print.specs.declared.event.Event.{Event}
use Rattle.fk_print.specs.declared.event.Event.TheVariants as event
use Rattle.fk_print.specs.declared.line.Act.TheVariants as act
use Rattle.fk_print.specs.declared.line.Line.{Line}
use Rattle.fk_print.specs.declared.line.Line.TheVariants as line
use Rattle.fk_print.specs.declared.line.Shown.TheVariants as shown
use Rattle.fk_print.specs.declared.line.Verb.TheVariants as verb
use Rattle.fk_print.specs.declared.op.Op.{Op}
use Rattle.fk_print.specs.declared.op.Op.TheVariants as op
use Rattle.fk_script.specs.declared.command.Command.TheVariants as command
use Rattle.fk_script.specs.declared.deployment.Deployment.{Deployment}
use Rattle.fk_spec.specs.Plan.{Plan, plan_of}
use Rattle.fk_spec.specs.Next.{next_entry}

-- one client `a` with one create
abbrev pub creating : List ℕ → List ℕ → Deployment
creating path bytes = record { config = record { lock = 10; beat = 30 }; clients = record { name = codes "a"; commands = command.Create path bytes false false true ∷ [] } ∷ []; turns = []; scheduled = false }

-- the history of these events, after h
abbrev pub played : Plan → List Event → List Entry → List Entry
played p [] h = h
played p (e ∷ es) h = played p es (next_entry p h e ∷ h)

abbrev pub entry : Event → Op → List Line → Entry
entry e o ls = record { event = e; op = o; lines = ls }

abbrev pub create_events : List Event
create_events = (event.Clock 11) ∷ (event.Client 1) ∷ (event.Deliver 1) ∷ (event.Step 1) ∷ (event.Step 1) ∷ (event.Step 1) ∷ (event.Step 1) ∷ (event.Step 1) ∷ (event.Step 1) ∷ event.Leader ∷ (event.Step 2) ∷ (event.Step 2) ∷ (event.Step 2) ∷ (event.Step 2) ∷ (event.Step 2) ∷ (event.Step 2) ∷ (event.Step 2) ∷ (event.Step 2) ∷ (event.Step 2) ∷ (event.Client 1) ∷ (event.Client 1) ∷ []

-- a client creates a node right under the root: the newest entry first
abbrev pub create_entries : List Entry
create_entries = entry (event.Client 1) (op.LookOk 1 1 1) (line.Reply 1 1 verb.Create (shown.Created 1 ((codes "x") ∷ [])) ∷ [])
    ∷ entry (event.Client 1) (op.TakeDone 1 1 1) []
    ∷ entry (event.Step 2) (op.AckOk 2) []
    ∷ entry (event.Step 2) (op.DoneOk 2 1) []
    ∷ entry (event.Step 2) (op.Reply 2 1 1) []
    ∷ entry (event.Step 2) (op.PublishOk 2 1) (line.Tx (record { tx = 1; moment = 11; session = 1; k = 1; act = act.Create ((codes "x") ∷ []) (codes "hi") false false }) ∷ [])
    ∷ entry (event.Step 2) (op.PutOk 2 1 ((codes "x") ∷ [])) []
    ∷ entry (event.Step 2) (op.PutOk 2 1 []) []
    ∷ entry (event.Step 2) (op.SweepOk 2 1 0) []
    ∷ entry (event.Step 2) (op.PendingYes 2 1) []
    ∷ entry (event.Step 2) (op.CommitSettled 2 1 1) []
    ∷ entry event.Leader (op.Leader 2 1) []
    ∷ entry (event.Step 1) (op.AckOk 1) []
    ∷ entry (event.Step 1) (op.CommitOk 1 1) []
    ∷ entry (event.Step 1) (op.Push 1 1) []
    ∷ entry (event.Step 1) (op.LockOk 1 ((codes "x") ∷ [])) []
    ∷ entry (event.Step 1) (op.LockOk 1 []) []
    ∷ entry (event.Step 1) (op.SessionNew 1) []
    ∷ entry (event.Deliver 1) (op.Follower 1 1 1) []
    ∷ entry (event.Client 1) (op.Send 1 1 1) []
    ∷ entry (event.Clock 11) (op.Clock 11) []
    ∷ []

abbrev pub CreateIsPlayed : Type 0
CreateIsPlayed = played (plan_of (creating (codes "/x") (codes "hi"))) create_events [] ≡ create_entries

abbrev pub orphan_events : List Event
orphan_events = (event.Clock 11) ∷ (event.Client 1) ∷ (event.Deliver 1) ∷ (event.Step 1) ∷ (event.Step 1) ∷ (event.Step 1) ∷ (event.Step 1) ∷ (event.Step 1) ∷ (event.Step 1) ∷ (event.Client 1) ∷ (event.Client 1) ∷ []

-- a create under a missing parent is refused: the newest entry first
abbrev pub orphan_entries : List Entry
orphan_entries = entry (event.Client 1) (op.LookOk 1 1 0) (line.Reply 1 1 verb.Create (shown.Refused code.NoNode 0 0) ∷ [])
    ∷ entry (event.Client 1) (op.TakeRefused 1 1) []
    ∷ entry (event.Step 1) (op.AckOk 1) []
    ∷ entry (event.Step 1) (op.Reply 1 1 1) []
    ∷ entry (event.Step 1) (op.RefuseOk 1 code.NoNode 0 0) []
    ∷ entry (event.Step 1) (op.LockOk 1 ((codes "m") ∷ (codes "y") ∷ [])) []
    ∷ entry (event.Step 1) (op.LockOk 1 ((codes "m") ∷ [])) []
    ∷ entry (event.Step 1) (op.SessionNew 1) []
    ∷ entry (event.Deliver 1) (op.Follower 1 1 1) []
    ∷ entry (event.Client 1) (op.Send 1 1 1) []
    ∷ entry (event.Clock 11) (op.Clock 11) []
    ∷ []

abbrev pub OrphanIsPlayed : Type 0
OrphanIsPlayed = played (plan_of (creating (codes "/m/y") (codes "v"))) orphan_events [] ≡ orphan_entries

abbrev pub root_events : List Event
root_events = (event.Clock 11) ∷ (event.Client 1) ∷ (event.Deliver 1) ∷ (event.Step 1) ∷ (event.Step 1) ∷ (event.Step 1) ∷ (event.Step 1) ∷ (event.Step 1) ∷ (event.Client 1) ∷ (event.Client 1) ∷ []

-- a create of the root is refused: the newest entry first
abbrev pub root_entries : List Entry
root_entries = entry (event.Client 1) (op.LookOk 1 1 0) (line.Reply 1 1 verb.Create (shown.Refused code.NodeExists 0 0) ∷ [])
    ∷ entry (event.Client 1) (op.TakeRefused 1 1) []
    ∷ entry (event.Step 1) (op.AckOk 1) []
    ∷ entry (event.Step 1) (op.Reply 1 1 1) []
    ∷ entry (event.Step 1) (op.RefuseOk 1 code.NodeExists 0 0) []
    ∷ entry (event.Step 1) (op.LockOk 1 []) []
    ∷ entry (event.Step 1) (op.SessionNew 1) []
    ∷ entry (event.Deliver 1) (op.Follower 1 1 1) []
    ∷ entry (event.Client 1) (op.Send 1 1 1) []
    ∷ entry (event.Clock 11) (op.Clock 11) []
    ∷ []

abbrev pub RootIsPlayed : Type 0
RootIsPlayed = played (plan_of (creating (codes "/") (codes "v"))) root_events [] ≡ root_entries

abbrev pub no_path_events : List Event
no_path_events = (event.Clock 11) ∷ (event.Client 1) ∷ []

-- a create at no path is refused by its client: the newest entry first
abbrev pub no_path_entries : List Entry
no_path_entries = entry (event.Client 1) (op.Local 1 1) (line.Reply 1 1 verb.Create (shown.Plain code.BadArguments) ∷ [])
    ∷ entry (event.Clock 11) (op.Clock 11) []
    ∷ []

abbrev pub NoPathIsPlayed : Type 0
NoPathIsPlayed = played (plan_of (creating (codes "x") (codes "v"))) no_path_events [] ≡ no_path_entries
