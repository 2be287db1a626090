-- Ends at which not all is answered, and are refused. Most change the run of a create in one drain.
use Rattle.std.specs.Prelude.{[], ◌∷◌, codes}
use Rattle.fk_script.specs.declared.deployment.Deployment.{Deployment}
use Rattle.fk_spec.specs.Schedule.{Answered}
use Rattle.fk_spec.specs.Scenarios.{creating, create_entries, entry}
use Rattle.fk_refused.specs.Changing.{printing, without}
use Rattle.fk_print.specs.declared.event.Event.TheVariants as event
use Rattle.fk_print.specs.declared.line.Line.TheVariants as line
use Rattle.fk_print.specs.declared.line.Shown.TheVariants as shown
use Rattle.fk_print.specs.declared.line.Verb.TheVariants as verb
use Rattle.fk_print.specs.declared.op.Op.TheVariants as op
use Rattle.fk_spec.specs.OwnWatch as own
use Rattle.fk_spec.specs.ReadHeld as held
use Rattle.fk_spec.specs.CreateThenGet as got
use Rattle.fk_spec.specs.Eviction as evicted

abbrev pub created_once : Deployment
created_once = creating (codes "/x") (codes "hi")

-- A command has no line.
abbrev pub CommandWithoutItsLine : Type 0
CommandWithoutItsLine = Answered created_once (printing 0 [] create_entries) → ⊥

-- The second command of a client has no line.
abbrev pub SecondCommandWithoutItsLine : Type 0
SecondCommandWithoutItsLine = Answered got.deployed (printing 0 [] got.entries) → ⊥

-- The command of the second client has no line.
abbrev pub SecondClientWithoutItsLine : Type 0
SecondClientWithoutItsLine = Answered held.deployed (printing 0 [] held.entries) → ⊥

-- A line is of another command.
abbrev pub OtherCommandIsAnswered : Type 0
OtherCommandIsAnswered = Answered created_once (printing 0 (line.Reply 1 2 verb.Create (shown.Created 1 (codes "x" ∷ [])) ∷ []) create_entries) → ⊥

-- A line is of another client.
abbrev pub OtherClientIsAnswered : Type 0
OtherClientIsAnswered = Answered created_once (printing 0 (line.Reply 2 1 verb.Create (shown.Created 1 (codes "x" ∷ [])) ∷ []) create_entries) → ⊥

-- A function is in flight.
abbrev pub FunctionInFlight : Type 0
FunctionInFlight = Answered created_once (entry (event.Beat 1) (op.Beat 3 1) [] ∷ create_entries) → ⊥

-- A push is left in the leader lane.
abbrev pub PushIsLeft : Type 0
PushIsLeft = Answered created_once (without 2 create_entries) → ⊥

-- A request is left in its session's lane.
abbrev pub RequestIsLeft : Type 0
RequestIsLeft = Answered created_once (without 12 create_entries) → ⊥

-- A message is left in a client's inbox.
abbrev pub MessageIsLeft : Type 0
MessageIsLeft = Answered created_once (without 1 create_entries) → ⊥

-- A note is left in the watch lane.
abbrev pub NoteIsLeft : Type 0
NoteIsLeft = Answered own.deployed (without 3 own.entries) → ⊥

-- A client owes a ping its answer.
abbrev pub PingIsOwed : Type 0
PingIsOwed = Answered evicted.deployed (without 3 evicted.entries) → ⊥
