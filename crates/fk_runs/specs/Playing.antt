-- What a worked run shows.
use Rattle.std.specs.Prelude.{◌≡◌, ℕ, zero, suc, List, [], ◌∷◌}
use Rattle.fk_print.specs.declared.entry.Entry.{Entry}
use Rattle.fk_print.specs.declared.event.Event.{Event}
use Rattle.fk_script.specs.declared.deployment.Deployment.{Deployment}
use Rattle.fk_spec.specs.Plan.{plan_of}
use Rattle.fk_spec.specs.Scenarios.{played}

-- the events of a history in their order, and then these
abbrev pub events_onto : List Event → List Entry → List Event
events_onto es [] = es
events_onto es (e ∷ h) = events_onto (e.event ∷ es) h

-- the rules give this history at its events
abbrev pub IsPlayed : Deployment → List Entry → Type 0
IsPlayed d h = played (plan_of d) (events_onto [] h) [] ≡ h

-- so many bytes of one value
abbrev pub many : ℕ → ℕ → List ℕ
many zero b = []
many (suc n) b = b ∷ many n b
