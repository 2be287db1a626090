-- The first that is there.
use Rattle.std.proofs.Common.{◌≡◌, ℕ, List, [], ◌∷◌, Option, Some, None, slice_get, refl, ◌∙◌, ap}
use Rattle.fk_print.specs.declared.event.Event.TheVariants as event
use Rattle.fk_spec.specs.Schedule.{step_of_first}
use Rattle.fk_spec.specs.Start.{or_else}

pub or_first : {A : Type 0} (x o : Option A) (e : A) → Some e ≡ x → Some e ≡ or_else x o
or_first {A} x o e h = h ∙ step x h
  where
    step : (y : Option A) → Some e ≡ y → y ≡ or_else y o
    step (Some a) i = refl
    step None i = absurd (cc)

pub or_rest : {A : Type 0} (x o r : Option A) → None ≡ x → r ≡ o → r ≡ or_else x o
or_rest x o r h e = e ∙ ap (λ y. or_else y o) h

pub no_step : (ns : List ℕ) → None ≡ slice_get ns 0 → None ≡ step_of_first ns
no_step [] e = refl
no_step (n ∷ ns) e = absurd (cc)

pub first_step : (ns : List ℕ) (n : ℕ) → Some n ≡ slice_get ns 0 → Some (event.Step n) ≡ step_of_first ns
first_step [] n e = absurd (cc)
first_step (m ∷ ns) n e = some (cc)
  where
    some : n ≡ m → Some (event.Step n) ≡ Some (event.Step m)
    some h = ap (λ k. Some (event.Step k)) h
