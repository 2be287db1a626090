-- What an engine that stands where a history says makes of an event.
use Rattle.std.specs.Prelude.{◌≡◌, ◌<◌, ◌^◌, true, ⊤, List, ◌∷◌, length}
use Rattle.fk_print.specs.declared.entry.Entry.{Entry}
use Rattle.fk_print.specs.declared.event.Event.{Event}
use Rattle.fk_print.specs.declared.event.Event.TheVariants as event
use Rattle.fk_base.specs.Limits.{IsNumber}
use Rattle.fk_spec.specs.Plan.{Plan}
use Rattle.fk_spec.specs.Next.{names_client, next_entry}
use Rattle.fk_engine.specs.Engine.{made}
use Rattle.fk_engine.specs.Events.{after_event}
use Rattle.fk_engine.specs.Fit.{FitsEvent, IsReadAt}
use Rattle.fk_engine.specs.Parts.{Meaning}
use Rattle.fk_engine.specs.Playing.{SendsReadable}
use Rattle.fk_engine.specs.Reads.{Read}
use Rattle.fk_agree_engine.specs.World.{IsWithinLimits, IsWorld}

-- a moment that a clock event names is within the limits of messages
abbrev pub IsMoment : Event → Type 0
IsMoment (event.Clock moment) = IsNumber moment
IsMoment _ = ⊤

-- The engine stands where a history says that is shorter than 2^62, and the event names one of the clients.
pub record CanPlay (p : Plan) (h : List Entry) (w : Meaning) (e : Event) : Type 0 where
  pub limits : IsWithinLimits p
  pub world : IsWorld p h w
  pub short : length h < 2 ^ 62
  pub named : names_client p e ≡ true
  pub moment : IsMoment e

-- What the event needs holds.
abbrev pub EventIsFit : Type 0
EventIsFit = (p : Plan) (h : List Entry) (w : Meaning) (e : Event) → CanPlay p h w e → FitsEvent w e

-- Whatever it reads, its entry is the one that follows the history.
abbrev pub EventIsNext : Type 0
EventIsNext = (p : Plan) (h : List Entry) (w : Meaning) (e : Event) (r : Read) → CanPlay p h w e → IsReadAt w e r → made w e r ≡ next_entry p h e

-- After it the engine stands where the longer history says.
abbrev pub EngineGoesOn : Type 0
EngineGoesOn = (p : Plan) (h : List Entry) (w : Meaning) (e : Event) (r : Read) → CanPlay p h w e → IsReadAt w e r → SendsReadable w e → IsWorld p (made w e r ∷ h) (after_event w e r)
