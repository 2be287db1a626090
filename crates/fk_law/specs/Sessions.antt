-- Events and sessions are of the plan's clients.
use Rattle.std.specs.Prelude.{◌≡◌, ℕ, true, List, [], ◌∷◌, Some}
use Rattle.fk_print.specs.declared.entry.Entry.{Entry}
use Rattle.fk_print.specs.declared.event.Event.{Event}
use Rattle.fk_print.specs.declared.op.Op.{Op}
use Rattle.fk_print.specs.declared.op.Op.TheVariants as op
use Rattle.fk_spec.specs.Plan.{Plan, is_client}
use Rattle.fk_spec.specs.Schedule.{drain_begin, next_of_drain}
use Rattle.fk_spec.specs.Start.{Follows, task_of}
use Rattle.fk_spec.specs.Next.{IsHistory, names_client}

-- a heartbeat that starts is of a client's session
abbrev pub BeatsAClient : Plan → Op → Type 0
BeatsAClient p (op.Beat function session) = is_client p session ≡ true
BeatsAClient p _ = Unit {0}

-- each heartbeat of the history is
abbrev pub BeatsClients : Plan → List Entry → Type 0
BeatsClients p [] = Unit {0}
BeatsClients p (e ∷ h) = BeatsClients p h × BeatsAClient p e.op

-- So it is in each history.
abbrev pub HeartbeatsAreOfClients : Type 0
HeartbeatsAreOfClients = (p : Plan) (h : List Entry) → IsHistory p h → BeatsClients p h

-- And each request is of a client's session.
abbrev pub FollowsAClient : Type 0
FollowsAClient = (p : Plan) (n c k : ℕ) (h : List Entry) → IsHistory p h → task_of n h ≡ Some (Follows c k) → is_client p c ≡ true

-- these events name clients
abbrev pub NameClients : Plan → List Event → Type 0
NameClients p [] = Unit {0}
NameClients p (v ∷ vs) = (names_client p v ≡ true) × NameClients p vs

-- The events of a drain name clients: those with which it begins, and what it does next.
abbrev pub DrainsBeginWithClients : Type 0
DrainsBeginWithClients = (p : Plan) (h : List Entry) → NameClients p (drain_begin p h)

abbrev pub DrainsNameClients : Type 0
DrainsNameClients = (p : Plan) (h : List Entry) (v : Event) → next_of_drain p h ≡ Some v → names_client p v ≡ true
