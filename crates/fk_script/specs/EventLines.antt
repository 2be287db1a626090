-- The line of a turn of the schedule.
use Rattle.std.specs.Prelude.{ℕ, ◌+◌, Bool, false, if◌then◌else◌, ◌&&◌, ◌||◌, not, List, [], ◌∷◌, codes, Option, Some, None, unwrap_or, is_none}
use Rattle.fk_print.specs.declared.event.Event.{Event}
use Rattle.fk_print.specs.declared.event.Event.TheVariants as event
use Rattle.fk_script.specs.declared.deployment.Turn.{Turn}
use Rattle.fk_script.specs.declared.deployment.Turn.TheVariants as turn
use Rattle.fk_script.specs.Lines.{Word, is, is_one_of}
use Rattle.fk_script.specs.Values.{number, most_event}

abbrev pub is_event_name : Word → Bool
is_event_name name = is_one_of (codes "client" ∷ codes "deliver" ∷ codes "beat" ∷ codes "step" ∷ codes "crash" ∷ codes "fail" ∷ codes "clock" ∷ codes "drain" ∷ []) name

-- `drain` stands alone; every other event has one word behind its name, and `fail client` one more.
abbrev pub event_fits : List Word → Bool
event_fits [] = false
event_fits (w ∷ []) = is w (codes "drain")
event_fits (w ∷ v ∷ []) = not (is w (codes "drain"))
event_fits (w ∷ v ∷ c ∷ []) = is w (codes "fail") && is v (codes "client")
event_fits (w ∷ v ∷ c ∷ d ∷ ws) = false

-- the word that stands for a number
abbrev pub number_word : List Word → Option Word
number_word [] = None
number_word (w ∷ []) = None
number_word (w ∷ v ∷ []) = if is_one_of (codes "step" ∷ codes "crash" ∷ codes "fail" ∷ codes "clock" ∷ []) w then Some v else None
number_word (w ∷ v ∷ c ∷ ws) = None

-- the word that stands for a client
abbrev pub client_word : List Word → Option Word
client_word [] = None
client_word (w ∷ []) = None
client_word (w ∷ v ∷ []) = if is_one_of (codes "client" ∷ codes "beat" ∷ []) w || (is w (codes "deliver") && not (is_one_of (codes "leader" ∷ codes "watch" ∷ []) v)) then Some v else None
client_word (w ∷ v ∷ c ∷ ws) = Some c

abbrev pub is_bad_number : Option Word → Bool
is_bad_number None = false
is_bad_number (Some word) = is_none (number most_event word)

abbrev pub is_no_client : List Word → Option Word → Bool
is_no_client names None = false
is_no_client names (Some name) = not (is_one_of names name)

-- a client's place among the names, from 1
abbrev pub session : List Word → Word → ℕ
session [] name = 0
session (n ∷ ns) name = if is name n then 1 else session ns name + 1

abbrev pub number_of : Word → ℕ
number_of word = unwrap_or (number most_event word) 0

-- a function starts on the head of a lane
abbrev pub delivery_of : List Word → Word → Event
delivery_of names v = if is v (codes "leader") then event.Leader else if is v (codes "watch") then event.Watch else event.Deliver (session names v)

-- the event of a name and the word behind it
abbrev pub event_of : List Word → Word → Word → Event
event_of names w v = if is w (codes "client") then event.Client (session names v)
    else if is w (codes "deliver") then delivery_of names v
    else if is w (codes "beat") then event.Beat (session names v)
    else if is w (codes "step") then event.Step (number_of v)
    else if is w (codes "crash") then event.Crash (number_of v)
    else if is w (codes "fail") then event.Fail (number_of v)
    else event.Clock (number_of v)

-- the turn that a line says
abbrev pub turn_of : List Word → List Word → Turn
turn_of names [] = turn.Drain
turn_of names (w ∷ []) = turn.Drain
turn_of names (w ∷ v ∷ []) = turn.One (event_of names w v)
turn_of names (w ∷ v ∷ c ∷ ws) = turn.One (event.FailClient (session names c))
