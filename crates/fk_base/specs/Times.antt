-- When a time has passed.
use Rattle.std.specs.Prelude.{ℕ, ◌+◌, nat_lt, Bool}

-- whether this time, from a moment on, has passed now
abbrev pub has_passed : ℕ → ℕ → ℕ → Bool
has_passed time moment now = nat_lt (moment + time) now
