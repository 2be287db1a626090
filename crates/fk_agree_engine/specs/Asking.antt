-- What a drain asks of an engine that stands where a history says.
use Rattle.std.specs.Prelude.{◌≡◌, ℕ, ◌+◌, ◌<◌, ◌^◌, true, not, List, length}
use Rattle.fk_print.specs.declared.entry.Entry.{Entry}
use Rattle.fk_print.specs.declared.event.Event.{Event}
use Rattle.fk_spec.specs.Plan.{Plan}
use Rattle.fk_spec.specs.Function.{in_flight}
use Rattle.fk_spec.specs.Next.{names_client, next_op}
use Rattle.fk_spec.specs.Schedule as schedule
use Rattle.fk_engine.specs.Drain as drain
use Rattle.fk_engine.specs.Drain.{is_ready}
use Rattle.fk_engine.specs.DrainFit.{FitsDrain, FitsReady}
use Rattle.fk_engine.specs.Flights.{AreInFlight}
use Rattle.fk_engine.specs.Parts.{Meaning}
use Rattle.fk_agree_engine.specs.World.{IsWorld}

-- Its functions in flight are those of the rules.
abbrev pub FlightIsTheRules : Type 0
FlightIsTheRules = (p : Plan) (h : List Entry) (w : Meaning) (ns : List ℕ) → IsWorld p h w → AreInFlight w.functions ns → ns ≡ in_flight p h

-- What a drain does next is what the rules say.
abbrev pub NextOfDrainIsTheRules : Type 0
NextOfDrainIsTheRules = (p : Plan) (h : List Entry) (w : Meaning) (ns : List ℕ) → IsWorld p h w → AreInFlight w.functions ns → drain.next_of_drain ns w ≡ schedule.next_of_drain p h

-- An event would make an operation exactly where the rules' operation of it isn't idle.
abbrev pub ReadyIsTheRules : Type 0
ReadyIsTheRules = (p : Plan) (h : List Entry) (w : Meaning) (e : Event) → names_client p e ≡ true → IsWorld p h w → is_ready w e ≡ not (schedule.is_idle (next_op p h e))

-- What the questions of a drain need holds where there are fewer than 2^32 - 1 clients.
abbrev pub DrainIsFit : Type 0
DrainIsFit = (p : Plan) (h : List Entry) (w : Meaning) → IsWorld p h w → 1 + length p.asks < 2 ^ 32 → FitsDrain w

-- What it needs to ask of an event holds where the event names one of the clients.
abbrev pub ReadyIsFit : Type 0
ReadyIsFit = (p : Plan) (h : List Entry) (w : Meaning) (e : Event) → IsWorld p h w → names_client p e ≡ true → FitsReady w e
