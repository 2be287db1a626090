-- The schedule, computed: whether the events of a history are the deployment's turns and a last drain.
use Rattle.std.specs.Prelude.{◌≡◌, ◌==◌, Bool, true, false, if◌then◌else◌, List, [], ◌∷◌, Option, Some, None}
use Rattle.fk_print.specs.declared.entry.Entry.{Entry}
use Rattle.fk_print.specs.declared.event.Event.{Event}
use Rattle.fk_print.specs.declared.event.Event.TheVariants as event
use Rattle.fk_script.specs.declared.deployment.Deployment.{Deployment}
use Rattle.fk_script.specs.declared.deployment.Turn.{Turn}
use Rattle.fk_script.specs.declared.deployment.Turn.TheVariants as turn
use Rattle.fk_spec.specs.Plan.{Plan, plan_of}
use Rattle.fk_spec.specs.Schedule.{drain_begin, next_of_drain, Scheduled}

abbrev pub same_event : Event → Event → Bool
same_event (event.Client c) (event.Client d) = c == d
same_event (event.Deliver c) (event.Deliver d) = c == d
same_event event.Leader event.Leader = true
same_event event.Watch event.Watch = true
same_event (event.Beat c) (event.Beat d) = c == d
same_event (event.Step n) (event.Step m) = n == m
same_event (event.Crash n) (event.Crash m) = n == m
same_event (event.Fail n) (event.Fail m) = n == m
same_event (event.FailClient c) (event.FailClient d) = c == d
same_event (event.Clock t) (event.Clock u) = t == u
same_event _ _ = false

-- a history in two parts: what was played, the newest first, and what is to come, the oldest first
pub record Cut : Type 0 where
  pub past : List Entry
  pub rest : List Entry

abbrev pub onto : List Entry → List Entry → List Entry
onto h [] = h
onto h (x ∷ xs) = onto (x ∷ h) xs

abbrev pub then_cut : Option Cut → (List Entry → List Entry → Option Cut) → Option Cut
then_cut None f = None
then_cut (Some c) f = f c.past c.rest

-- what is left once these events were played
abbrev pub plays_on : List Event → List Entry → List Entry → Option Cut
plays_on [] h rest = Some (record { past = h; rest = rest })
plays_on (e ∷ es) h [] = None
plays_on (e ∷ es) h (x ∷ rest) = if same_event x.event e then plays_on es (x ∷ h) rest else None

abbrev pub goes_on : Option Event → Event → Option Cut → Option Cut → Option Cut
goes_on None v stop go = stop
goes_on (Some e) v stop go = if same_event v e then go else None

abbrev pub stops_here : Option Event → Option Cut → Option Cut
stops_here None stop = stop
stops_here (Some e) stop = None

-- what is left where a drain does nothing more
abbrev pub empties_on : Plan → List Entry → List Entry → Option Cut
empties_on p h [] = stops_here (next_of_drain p h) (Some (record { past = h; rest = [] }))
empties_on p h (x ∷ rest) = goes_on (next_of_drain p h) x.event (Some (record { past = h; rest = x ∷ rest })) (empties_on p (x ∷ h) rest)

abbrev pub drains_on : Plan → List Entry → List Entry → Option Cut
drains_on p h rest = then_cut (plays_on (drain_begin p h) h rest) (empties_on p)

abbrev pub turn_on : Plan → Turn → List Entry → List Entry → Option Cut
turn_on p (turn.One e) h rest = plays_on (e ∷ []) h rest
turn_on p turn.Drain h rest = drains_on p h rest

-- what is left once these turns and a last drain were played
abbrev pub turns_on : Plan → List Turn → List Entry → List Entry → Option Cut
turns_on p [] h rest = drains_on p h rest
turns_on p (t ∷ ts) h rest = then_cut (turn_on p t h rest) (turns_on p ts)

abbrev pub none_left : Option Cut → Bool
none_left (Some c) = is_empty c.rest
  where
    is_empty : List Entry → Bool
    is_empty [] = true
    is_empty (x ∷ xs) = false
none_left None = false

-- whether the whole history is the deployment's turns and a last drain
abbrev pub is_scheduled : Deployment → List Entry → Bool
is_scheduled d h = none_left (turns_on (plan_of d) d.turns [] (onto [] h))

-- This is what a schedule is.
abbrev pub ScheduleIsComputed : Type 0
ScheduleIsComputed = (d : Deployment) (h : List Entry) → (is_scheduled d h ≡ true → Scheduled d h) × (Scheduled d h → is_scheduled d h ≡ true)
