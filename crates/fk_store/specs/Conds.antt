-- The conditions of a transaction.
use Rattle.std.specs.Prelude.{ℕ, suc, ◌==◌, nat_lt, Bool, true, if◌then◌else◌, ◌&&◌, List, [], ◌∷◌, Option, Some, None, is_some}
use Rattle.fk_store.specs.declared.cond.Cond.{Cond}
use Rattle.fk_store.specs.declared.cond.Cond.TheVariants as cond
use Rattle.fk_store.specs.declared.cond.Found.{Found}
use Rattle.fk_store.specs.declared.cond.Found.TheVariants as found
use Rattle.fk_store.specs.declared.session_record.SessionRecord.{SessionRecord}
use Rattle.fk_store.specs.Locks.{is_free, is_held_by}
use Rattle.fk_store.specs.Meaning.{Meaning, lock_of, or_new_session}

abbrev pub session_of : Meaning → ℕ → SessionRecord
session_of m s = or_new_session (m.sessions s)

-- Settled holds where that is the session's settled number, Free where the path's lock may be granted at
-- that moment, Holds where it is held by the invocation, DoneBelow and PingBelow where the number done and
-- the session's ping are below the number.
abbrev pub holds_cond : Meaning → Cond → Bool
holds_cond m (cond.Settled s k) = (session_of m s).settled == k
holds_cond m (cond.Free p now time) = is_free now time (lock_of m p)
holds_cond m (cond.Holds p inv) = is_held_by inv (lock_of m p)
holds_cond m (cond.DoneBelow n) = nat_lt m.done n
holds_cond m (cond.PingBelow s n) = nat_lt (session_of m s).ping n

-- what a condition looks at: a number, or the lock of a path
abbrev pub found_at : Meaning → Cond → Found
found_at m (cond.Settled s k) = found.Number (session_of m s).settled
found_at m (cond.Free p now time) = found.Lock (lock_of m p)
found_at m (cond.Holds p inv) = found.Lock (lock_of m p)
found_at m (cond.DoneBelow n) = found.Number m.done
found_at m (cond.PingBelow s n) = found.Number (session_of m s).ping

-- a condition that fails: its place, and what was found there
pub record Miss : Type 0 where
  pub place : ℕ
  pub found : Found

-- the first condition that fails, where the places are counted from i
abbrev pub missed_from : ℕ → Meaning → List Cond → Option Miss
missed_from i m [] = None
missed_from i m (c ∷ cs) = if holds_cond m c then missed_from (suc i) m cs else Some (record { place = i; found = found_at m c })

-- the first condition that fails, counted from 0
abbrev pub first_missed : Meaning → List Cond → Option Miss
first_missed = missed_from 0

-- the session that a condition names exists
abbrev pub is_fit_cond : Meaning → Cond → Bool
is_fit_cond m (cond.Settled s k) = is_some (m.sessions s)
is_fit_cond m (cond.Free p now time) = true
is_fit_cond m (cond.Holds p inv) = true
is_fit_cond m (cond.DoneBelow n) = true
is_fit_cond m (cond.PingBelow s n) = is_some (m.sessions s)

abbrev pub are_fit_conds : Meaning → List Cond → Bool
are_fit_conds m [] = true
are_fit_conds m (c ∷ cs) = is_fit_cond m c && are_fit_conds m cs
