-- What a desk is, what is true of every desk, and what its calls make of it.
use Rattle.std.specs.Prelude.{◌≡◌, ℕ, ◌-◌, ◌<◌, ◌^◌, ltb, Bool, true, false, if◌then◌else◌, List, [], ◌∷◌, length, set, Option, Some, None, ⊤}
use Rattle.fk_print.specs.declared.entry.Entry.{Entry}
use Rattle.fk_print.specs.declared.event.Event.{Event}
use Rattle.fk_print.specs.declared.event.Event.TheVariants as event
use Rattle.fk_print.specs.declared.op.Op.{Op}
use Rattle.fk_script.specs.declared.deployment.Deployment.{Deployment}
use Rattle.fk_spec.specs.Next.{IsHistory, names_client, next_entry, next_op}
use Rattle.fk_spec.specs.Plan.{Plan, plan_of}
use Rattle.fk_spec.specs.Start.{Start, clock_of, started_in}
use Rattle.fk_world.specs.Quiet.{is_quiet}
use Rattle.fk_world.specs.World as world
use Rattle.fk_live.specs.declared.pick.Pick.{Pick}
use Rattle.fk_live.specs.declared.pick.Pick.TheVariants as pick
use Rattle.fk_live.specs.declared.worker.Started.{Started}
use Rattle.fk_live.specs.declared.worker.Worker.{Worker}
use Rattle.fk_live.specs.Choosing.{choice, moment_of, worker_at}
use Rattle.fk_live.specs.Undisturbed.{IsUndisturbed}

-- a desk: its world, and its sixteen workers
pub record View : Type 0 where
  pub world : world.View
  pub workers : List Worker

-- What every desk keeps. -----------------------------------------------------------------------------------

-- an event that a worker may have picked: it names one of the clients, and it is a step, a delivery or a client's turn
abbrev pub IsOffered : Plan → Event → Type 0
IsOffered p (event.Client c) = names_client p (event.Client c) ≡ true
IsOffered p (event.Deliver c) = names_client p (event.Deliver c) ≡ true
IsOffered p event.Leader = ⊤
IsOffered p event.Watch = ⊤
IsOffered p (event.Step n) = ⊤
IsOffered p _ = ⊥

-- each of these workers has picked such an event or none
abbrev pub IsPicked : Plan → Option Event → Type 0
IsPicked p None = ⊤
IsPicked p (Some e) = IsOffered p e

abbrev pub ArePicked : Plan → List Worker → Type 0
ArePicked p [] = ⊤
ArePicked p (w ∷ ws) = IsPicked p w.picked × ArePicked p ws

-- The past is a history of the deployment that nothing disturbed, the clock is early, and the workers are sixteen.
pub record IsDesk (d : Deployment) (h : List Entry) (ws : List Worker) : Type 0 where
  pub past : IsHistory (plan_of d) h
  pub undisturbed : IsUndisturbed h
  pub early : clock_of h < 2 ^ 40
  pub count : length ws ≡ 16
  pub picked : ArePicked (plan_of d) ws

-- A pick. --------------------------------------------------------------------------------------------------

-- a world with one entry more
abbrev pub goes_on : Entry → world.View → world.View
goes_on e w = record { deployment = w.deployment; past = e ∷ w.past; spent = false }

-- a world behind the clock's event that a pick adds where `now` is beyond the clock
abbrev pub shown_in : ℕ → world.View → world.View
shown_in now w =
    if ltb (clock_of w.past) (moment_of now) then goes_on (next_entry (plan_of w.deployment) w.past (event.Clock (moment_of now))) w else w

-- an event that worker n is to make is from now on the one that it has picked
abbrev pub noted : ℕ → Worker → Pick → List Worker → List Worker
noted n own (pick.Make e) ws = set ws (n - 1) (record { picked = Some e; started = own.started })
noted n own _ ws = ws

-- an answer to a worker, and the desk behind it
pub record Answer : Type 0 where
  pub pick : Pick
  pub desk : View

-- nothing changed
abbrev pub as_before : Pick → View → Answer
as_before c v = record { pick = c; desk = v }

-- worker n, which is `own`, gets this answer over this world
abbrev pub answered : ℕ → Worker → Pick → world.View → List Worker → Answer
answered n own c w ws = record { pick = c; desk = record { world = w; workers = noted n own c ws } }

-- what worker n is given over this world
abbrev pub chosen : ℕ → world.View → List Worker → Answer
chosen n w ws = answered n (worker_at n ws) (choice (plan_of w.deployment) w.deployment.clients w.past ws (worker_at n ws)) w ws

-- what a worker gets that has picked this event, or none
abbrev pub given : ℕ → ℕ → View → Option Event → Answer
given n now v (Some e) = as_before (pick.Make e) v
given n now v None =
    if is_quiet (plan_of v.world.deployment) v.world.past then as_before pick.Quiet v else chosen n (shown_in now v.world) v.workers

-- The pick of worker n at the moment `now`, where the world isn't spent: the event that it has picked; else that the
-- world is quiet; else, behind a clock's event where `now` is beyond the clock, what it is given.
abbrev pub picks : ℕ → ℕ → View → Answer
picks n now v = given n now v (worker_at n v.workers).picked

-- An event that a worker makes. ----------------------------------------------------------------------------

-- the function that an operation starts is the worker's from now on, with the event that started it
abbrev pub started_by : Event → Option Start → Option Started → Option Started
started_by e None old = old
started_by e (Some s) old = Some (record { function = s.function; event = e })

-- a worker that made an event has picked none
abbrev pub worker_made : Event → Op → Worker → Worker
worker_made e o w = record { picked = None; started = started_by e (started_in o) w.started }

-- the desk after worker n made an event
abbrev pub makes : ℕ → Event → View → View
makes n e v = let p = plan_of v.world.deployment in
    record {
      world = goes_on (next_entry p v.world.past e) v.world;
      workers = set v.workers (n - 1) (worker_made e (next_op p v.world.past e) (worker_at n v.workers));
    }

-- where the event wasn't the one that the worker has picked, nothing changed
abbrev pub makes_where : Bool → ℕ → Event → View → View
makes_where true n e v = makes n e v
makes_where false n e v = v
