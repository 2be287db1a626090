-- What is listed of the fired watches.
use Rattle.std.specs.Prelude.{ℕ, ◌==◌, if◌then◌else◌, List, [], ◌∷◌, ◌++◌}
use Rattle.fk_wire.specs.declared.fired.Fired.{Fired}
use Rattle.fk_watch.specs.declared.watch.Firing.{Firing}

-- a fired watch under its number, without the transaction
abbrev pub fired_as : ℕ → Firing → Fired
fired_as n f = record { id = n; session = f.watch.session; path = f.watch.path; kind = f.watch.kind; change = f.change }

-- a fired watch, if the transaction fired it
abbrev pub one_of : ℕ → ℕ × Firing → List Fired
one_of tx e = if e.1.tx == tx then fired_as e.0 e.1 ∷ [] else []

-- those that the transaction fired, in their order
abbrev pub those_of : ℕ → List (ℕ × Firing) → List Fired
those_of tx [] = []
those_of tx (e ∷ es) = one_of tx e ++ those_of tx es
