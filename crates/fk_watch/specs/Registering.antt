-- The registration of a watch.
use Rattle.std.specs.Prelude.{◌≡◌, ℕ, ◌+◌, ◌==◌, ◌⊎◌, if◌then◌else◌, Some, is_some}
use Rattle.fk_watch.specs.declared.watch.Watch.{Watch}
use Rattle.fk_watch.specs.Meaning.{Watches}

-- no set watch is that of this session, path and kind
abbrev pub IsUnset : Watch → Watches → Type 0
IsUnset w m = (n : ℕ) → m.set n ≡ Some w → ⊥

-- The number of the set watch of that session, path and kind; one that isn't set yet gets the number that is
-- one more than were given.
abbrev pub IsNumberOf : Watch → Watches → ℕ → Type 0
IsNumberOf w m n = (m.set n ≡ Some w) ⊎ (IsUnset w m × (n ≡ m.given + 1))

-- one more number was given, and that is the watch's
abbrev pub with_watch : Watch → ℕ → Watches → Watches
with_watch w n m = record m { given = n; set = λ i. if i == n then Some w else m.set i }

-- nothing changes where the number is that of a set watch
abbrev pub registered : Watch → ℕ → Watches → Watches
registered w n m = if is_some (m.set n) then m else with_watch w n m
