-- Which event a worker is given.
use Rattle.std.specs.Prelude.{ℕ, suc, ◌-◌, ◌^◌, min, Bool, false, if◌then◌else◌, ◌&&◌, ◌||◌, not, List, [], ◌∷◌, ◌++◌, get_or, Option, Some, None}
use Rattle.fk_print.specs.declared.entry.Entry.{Entry}
use Rattle.fk_print.specs.declared.event.Event.{Event}
use Rattle.fk_print.specs.declared.event.Event.TheVariants as event
use Rattle.fk_script.specs.declared.deployment.Block.{Block}
use Rattle.fk_spec.specs.Function.{is_absent, place_of}
use Rattle.fk_spec.specs.Next.{next_op}
use Rattle.fk_spec.specs.Plan.{Plan}
use Rattle.fk_spec.specs.Schedule.{is_idle}
use Rattle.fk_spec.specs.Start.{or_else}
use Rattle.fk_law_schedule.specs.Computed.{same_event}
use Rattle.fk_live.specs.declared.pick.Pick.{Pick}
use Rattle.fk_live.specs.declared.pick.Pick.TheVariants as pick
use Rattle.fk_live.specs.declared.worker.Started.{Started}
use Rattle.fk_live.specs.declared.worker.Worker.{Worker}

-- a worker that has picked no event and started no function
abbrev pub idle_worker : Worker
idle_worker = record { picked = None; started = None }

-- a worker by its number, from 1
abbrev pub worker_at : ℕ → List Worker → Worker
worker_at n ws = get_or ws (n - 1) idle_worker

-- whether an event would make an operation
abbrev pub is_ready : Plan → List Entry → Event → Bool
is_ready p h e = not (is_idle (next_op p h e))

-- whether function n is in flight
abbrev pub is_flying : Plan → List Entry → ℕ → Bool
is_flying p h n = not (is_absent (place_of p n h))

-- whether this event is picked
abbrev pub is_picked : Event → Option Event → Bool
is_picked e None = false
is_picked e (Some picked) = same_event picked e

-- whether a function is in flight that this event started
abbrev pub is_worked : Plan → List Entry → Event → Option Started → Bool
is_worked p h e None = false
is_worked p h e (Some s) = same_event s.event e && is_flying p h s.function

-- A worker has an event while it has picked it and not made it, or has in flight the function that the event started.
abbrev pub has_event : Plan → List Entry → Event → Worker → Bool
has_event p h e w = is_picked e w.picked || is_worked p h e w.started

-- whether one of these workers has an event
abbrev pub is_taken : Plan → List Entry → Event → List Worker → Bool
is_taken p h e [] = false
is_taken p h e (w ∷ ws) = has_event p h e w || is_taken p h e ws

-- an event that would make an operation, and that no worker has
abbrev pub is_free : Plan → List Entry → List Worker → Event → Bool
is_free p h ws e = is_ready p h e && not (is_taken p h e ws)

-- a delivery to a follower for each of these clients, which are numbered from c on
abbrev pub deliveries : List Block → ℕ → List Event
deliveries [] c = []
deliveries (b ∷ bs) c = event.Deliver c ∷ deliveries bs (suc c)

-- a turn of each of these clients
abbrev pub turns : List Block → ℕ → List Event
turns [] c = []
turns (b ∷ bs) c = event.Client c ∷ turns bs (suc c)

-- What a worker without a function in flight may be given, in this order: a delivery to a watch function, one to the
-- leader, one to a follower for each client, a turn of each client.
abbrev pub candidates : List Block → List Event
candidates bs = event.Watch ∷ event.Leader ∷ deliveries bs 1 ++ turns bs 1

-- the first of these events that is free
abbrev pub first_free : Plan → List Entry → List Worker → List Event → Option Event
first_free p h ws [] = None
first_free p h ws (e ∷ es) = if is_free p h ws e then Some e else first_free p h ws es

-- a step of the function that a worker started, while it is in flight
abbrev pub own_step : Plan → List Entry → Option Started → Option Event
own_step p h None = None
own_step p h (Some s) = if is_flying p h s.function then Some (event.Step s.function) else None

-- there is an event to make, or the worker waits
abbrev pub make_or_wait : Option Event → Pick
make_or_wait None = pick.Wait
make_or_wait (Some e) = pick.Make e

-- What a worker that has picked nothing is given where there is something to do: a step of its own function, else the
-- first event that is free.
abbrev pub choice : Plan → List Block → List Entry → List Worker → Worker → Pick
choice p bs h ws w = make_or_wait (or_else (own_step p h w.started) (first_free p h ws (candidates bs)))

-- moments from 2^40 on count as the last one before it
abbrev pub moment_of : ℕ → ℕ
moment_of now = min now (2 ^ 40 - 1)
