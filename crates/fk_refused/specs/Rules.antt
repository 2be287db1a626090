-- Entries that do not follow the entries before them, and are refused.
use Rattle.std.specs.Prelude.{[], ◌∷◌, codes}
use Rattle.fk_spec.specs.Plan.{Plan, plan_of}
use Rattle.fk_spec.specs.Next.{IsHistory}
use Rattle.fk_spec.specs.Scenarios.{creating, entry}
use Rattle.fk_print.specs.declared.event.Event.TheVariants as event
use Rattle.fk_print.specs.declared.line.Line.TheVariants as line
use Rattle.fk_print.specs.declared.op.Op.TheVariants as op

abbrev pub creating_x : Plan
creating_x = plan_of (creating (codes "/x") (codes "hi"))

-- An event makes another operation than the rules say.
abbrev pub OtherOperation : Type 0
OtherOperation = IsHistory creating_x (entry (event.Client 1) (op.Read 1 1 0) [] ∷ []) → ⊥

-- An event prints a line that the rules do not give.
abbrev pub OtherLines : Type 0
OtherLines = IsHistory creating_x (entry (event.Client 1) (op.Send 1 1 1) (line.Expired 1 1 ∷ []) ∷ []) → ⊥

-- A client that there is not has a turn.
abbrev pub TurnOfNoClient : Type 0
TurnOfNoClient = IsHistory creating_x (entry (event.Client 2) op.Idle [] ∷ []) → ⊥

-- Client 0 has a turn.
abbrev pub TurnOfClientZero : Type 0
TurnOfClientZero = IsHistory creating_x (entry (event.Client 0) op.Idle [] ∷ []) → ⊥

-- A delivery is to a client that there is not.
abbrev pub DeliveryToNoClient : Type 0
DeliveryToNoClient = IsHistory creating_x (entry (event.Deliver 2) op.Idle [] ∷ []) → ⊥

-- A heartbeat is of a client that there is not.
abbrev pub BeatOfNoClient : Type 0
BeatOfNoClient = IsHistory creating_x (entry (event.Beat 2) (op.Beat 1 2) [] ∷ []) → ⊥

-- A client that there is not fails.
abbrev pub FailureOfNoClient : Type 0
FailureOfNoClient = IsHistory creating_x (entry (event.FailClient 2) op.Idle [] ∷ []) → ⊥
