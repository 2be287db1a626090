-- The timed lock of a path.
use Rattle.std.specs.Prelude.{ℕ, ◌==◌, Bool, true, false, ◌&&◌, ◌||◌, not}
use Rattle.fk_base.specs.Times.{has_passed}
use Rattle.fk_store.specs.declared.lock.Lock.{Lock}

-- the lock of a path that was never locked
abbrev pub no_lock : Lock
no_lock = record { inv = 0; moment = 0; held = false }

-- A lock may be granted exactly where none is held, or where now exceeds the held lock's moment by more
-- than the lock time.
abbrev pub is_free : ℕ → ℕ → Lock → Bool
is_free now time l = not l.held || has_passed time l.moment now

-- whether the lock is held by this invocation
abbrev pub is_held_by : ℕ → Lock → Bool
is_held_by inv l = l.held && (l.inv == inv)

-- a lock as it is granted
abbrev pub granted : ℕ → ℕ → Lock
granted inv moment = record { inv = inv; moment = moment; held = true }

-- the lock is no longer held; who had it and since when stays
abbrev pub released : Lock → Lock
released l = record l { held = false }
