-- The schedule: a deployment's turns in order, each drain replaced by its events, then a last drain.
use Rattle.std.specs.Prelude.{◌≡◌, ℕ, suc, ◌+◌, ◌==◌, Bool, true, false, if◌then◌else◌, ◌||◌, List, [], ◌∷◌, ◌++◌, Option, Some, None}
use Rattle.fk_print.specs.declared.entry.Entry.{Entry}
use Rattle.fk_print.specs.declared.event.Event.{Event}
use Rattle.fk_print.specs.declared.event.Event.TheVariants as event
use Rattle.fk_print.specs.declared.line.Line.{Line}
use Rattle.fk_print.specs.declared.line.Line.TheVariants as line
use Rattle.fk_print.specs.declared.op.Op.{Op}
use Rattle.fk_print.specs.declared.op.Op.TheVariants as op
use Rattle.fk_script.specs.declared.deployment.Deployment.{Deployment}
use Rattle.fk_script.specs.declared.deployment.Turn.{Turn}
use Rattle.fk_script.specs.declared.deployment.Turn.TheVariants as turn
use Rattle.fk_spec.specs.Plan.{Plan, Ask, plan_of}
use Rattle.fk_spec.specs.Start.{clock_of, or_else}
use Rattle.fk_spec.specs.Lanes.{session_head, leader_head, watch_head, inbox_of}
use Rattle.fk_spec.specs.Function.{in_flight}
use Rattle.fk_spec.specs.Client.{client_op, client_of}

abbrev pub crashes : List ℕ → List Event
crashes [] = []
crashes (n ∷ ns) = event.Crash n ∷ crashes ns

-- a drain begins by ending each function in flight, and by letting every lock run out
abbrev pub drain_begin : Plan → List Entry → List Event
drain_begin p h = crashes (in_flight p h) ++ event.Clock (clock_of h + p.lock + 1) ∷ []

abbrev pub is_idle : Op → Bool
is_idle op.Idle = true
is_idle _ = false

abbrev pub step_of_first : List ℕ → Option Event
step_of_first [] = None
step_of_first (n ∷ ns) = Some (event.Step n)

abbrev pub lead_where : Option ℕ → Option Event
lead_where None = None
lead_where (Some t) = Some event.Leader

abbrev pub tell_where : Option ℕ → Option Event
tell_where None = None
tell_where (Some w) = Some event.Watch

abbrev pub deliver_where : ℕ → Option ℕ → Option Event
deliver_where c None = None
deliver_where c (Some k) = Some (event.Deliver c)

-- the first client from c on whose lane isn't empty
abbrev pub deliver_first : List (List Ask) → ℕ → List Entry → Option Event
deliver_first [] c h = None
deliver_first (x ∷ xs) c h = or_else (deliver_where c (session_head c h)) (deliver_first xs (suc c) h)

-- the first client from c on that isn't idle
abbrev pub client_first : Plan → List (List Ask) → ℕ → List Entry → Option Event
client_first p [] c h = None
client_first p (x ∷ xs) c h = if is_idle (client_op p c h) then client_first p xs (suc c) h else Some (event.Client c)

-- What a drain does next: a step of the first function in flight, a delivery to a watch function, one to
-- the leader, one to the first session whose lane isn't empty, or a turn of the first client that isn't
-- idle.
abbrev pub next_of_drain : Plan → List Entry → Option Event
next_of_drain p h = or_else (step_of_first (in_flight p h)) (or_else (tell_where (watch_head h)) (or_else (lead_where (leader_head h)) (or_else (deliver_first p.asks 1 h) (client_first p p.asks 1 h))))

-- these events in order lead from h to k
abbrev pub Plays : List Event → List Entry → List Entry → Type 0
Plays [] h k = h ≡ k
Plays (e ∷ es) h k = (x : Entry) × (x.event ≡ e) × Plays es (x ∷ h) k

-- as long as a drain does something next, that is the next event
pub data Empties (p : Plan) : List Entry → List Entry → Type 0 where
  Emptied : (h : List Entry) → next_of_drain p h ≡ None → Empties p h h
  Goes : (h k : List Entry) (x : Entry) → next_of_drain p h ≡ Some x.event → Empties p (x ∷ h) k → Empties p h k

-- a whole drain leads from h to k
pub record Drains (p : Plan) (h k : List Entry) : Type 0 where
  pub begun : List Entry
  pub begins : Plays (drain_begin p h) h begun
  pub empties : Empties p begun k

abbrev pub TakesTurn : Plan → Turn → List Entry → List Entry → Type 0
TakesTurn p (turn.One e) h k = Plays (e ∷ []) h k
TakesTurn p turn.Drain h k = Drains p h k

abbrev pub TakesTurns : Plan → List Turn → List Entry → List Entry → Type 0
TakesTurns p [] h k = Drains p h k
TakesTurns p (t ∷ ts) h k = (m : List Entry) × TakesTurn p t h m × TakesTurns p ts m k

-- the events of the history are the deployment's turns in order, then those of one last drain
abbrev pub Scheduled : Deployment → List Entry → Type 0
Scheduled d h = TakesTurns (plan_of d) d.turns [] h

abbrev pub answers : ℕ → ℕ → Line → Bool
answers c i (line.Reply session command verb shown) = if session == c then command == i else false
answers c i _ = false

abbrev pub is_answered_in : ℕ → ℕ → List Line → Bool
is_answered_in c i [] = false
is_answered_in c i (l ∷ ls) = answers c i l || is_answered_in c i ls

-- whether command i of client c has its line
abbrev pub is_answered : ℕ → ℕ → List Entry → Bool
is_answered c i [] = false
is_answered c i (e ∷ h) = is_answered_in c i e.lines || is_answered c i h

abbrev pub CommandsAnswered : ℕ → List Ask → ℕ → List Entry → Type 0
CommandsAnswered c [] i h = Unit {0}
CommandsAnswered c (a ∷ xs) i h = (is_answered c i h ≡ true) × CommandsAnswered c xs (suc i) h

-- client c has a line for each command, nothing waits for it, and it owes no ping
pub record ClientAnswered (p : Plan) (c : ℕ) (asks : List Ask) (h : List Entry) : Type 0 where
  pub commands : CommandsAnswered c asks 1 h
  pub lane : session_head c h ≡ None
  pub inbox : inbox_of p c h ≡ []
  pub pings : (client_of p c h).owed ≡ []

abbrev pub ClientsAnswered : Plan → List (List Ask) → ℕ → List Entry → Type 0
ClientsAnswered p [] c h = Unit {0}
ClientsAnswered p (x ∷ xs) c h = ClientAnswered p c x h × ClientsAnswered p xs (suc c) h

-- each command has its line, every lane is empty, no ping is owed and no function is in flight
pub record AllAnswered (p : Plan) (h : List Entry) : Type 0 where
  pub clients : ClientsAnswered p p.asks 1 h
  pub leader : leader_head h ≡ None
  pub watch : watch_head h ≡ None
  pub functions : in_flight p h ≡ []

abbrev pub Answered : Deployment → List Entry → Type 0
Answered d h = AllAnswered (plan_of d) h
