-- What the turns of a deployment that some bytes mean name, and how late they let the clock be.
use Rattle.std.specs.Prelude.{◌≡◌, ℕ, ◌+◌, ◌*◌, ◌^◌, ◌<◌, ◌≤◌, max, true, ⊤, length, All}
use Rattle.fk_print.specs.WellFormed.{IsEvent}
use Rattle.fk_print.specs.declared.event.Event.{Event}
use Rattle.fk_print.specs.declared.event.Event.TheVariants as event
use Rattle.fk_script.specs.PrintLaws.{IsMeant}
use Rattle.fk_script.specs.Printed.{block_names}
use Rattle.fk_script.specs.Values.{most_event, most_time, most_turns}
use Rattle.fk_script.specs.declared.deployment.Deployment.{Deployment}
use Rattle.fk_script.specs.declared.deployment.Turn.{Turn}
use Rattle.fk_script.specs.declared.deployment.Turn.TheVariants as turn
use Rattle.fk_spec.specs.Plan.{plan_of}
use Rattle.fk_spec.specs.Next.{names_client}

-- A fact of the event, where the turn is one event.
abbrev pub OfEvent : (Event → Type 0) → Turn → Type 0
OfEvent P (turn.One e) = P e
OfEvent P turn.Drain = ⊤

-- A client that a turn names is one of the plan's.
abbrev pub TurnsNameClients : Type 0
TurnsNameClients =
    (d : Deployment) → IsMeant d → All (OfEvent (λ e. names_client (plan_of d) e ≡ true)) d.turns

-- A turn's event is well formed: the number of a function is below 2^63, and so is a moment.
abbrev pub TurnsAreWellFormed : Type 0
TurnsAreWellFormed =
    (d : Deployment) → IsMeant d → All (OfEvent (IsEvent (block_names d.clients))) d.turns

-- A moment that an event names is at most the greatest of the grammar, so below 2^42.
abbrev pub IsEarly : Event → Type 0
IsEarly (event.Clock moment) = (moment ≤ most_event) × (moment < 2 ^ 42)
IsEarly _ = ⊤

-- So is the moment of each turn, where its event names one.
abbrev pub TurnsAreMoments : Type 0
TurnsAreMoments = (d : Deployment) → IsMeant d → All (OfEvent IsEarly) d.turns

-- There are at most 65,536 turns.
abbrev pub TurnsAreFew : Type 0
TurnsAreFew = (d : Deployment) → IsMeant d → length d.turns ≤ most_turns

-- A lock and a ping last at most as long as the grammar lets them.
abbrev pub TimesAreShort : Type 0
TimesAreShort =
    (d : Deployment) → IsMeant d → (d.config.lock ≤ most_time) × (d.config.beat ≤ most_time)

-- How late the clock may be after so many turns: the greatest moment, and a lock more for each turn.
abbrev pub latest : Deployment → ℕ → ℕ
latest d turns = most_event + turns * (d.config.lock + 1)

-- A turn to a moment of the grammar leaves the clock within that.
abbrev pub MomentsStayLow : Type 0
MomentsStayLow =
    (d : Deployment) (i clock moment : ℕ) → moment ≤ most_event → clock ≤ latest d i
    → max moment clock ≤ latest d (i + 1)

-- So does a drain, which lets every lock run out.
abbrev pub DrainsStayLow : Type 0
DrainsStayLow =
    (d : Deployment) (i clock : ℕ) → clock ≤ latest d i
    → clock + d.config.lock + 1 ≤ latest d (i + 1)

-- A clock that is within that after some turns, or after all and a last drain, is below 2^42.
abbrev pub ClockStaysLow : Type 0
ClockStaysLow =
    (d : Deployment) (i clock : ℕ) → IsMeant d → i ≤ length d.turns + 1 → clock ≤ latest d i
    → clock < 2 ^ 42
