-- Watches by their number.
use Rattle.std.specs.Prelude.{ℕ, ◌==◌, if◌then◌else◌, List, [], ◌∷◌, Option, Some, None}
use Rattle.fk_spec.specs.Watches.{Watch}

-- the watch of this number
abbrev pub watch_with : ℕ → List Watch → Option Watch
watch_with id [] = None
watch_with id (w ∷ ws) = if w.id == id then Some w else watch_with id ws
