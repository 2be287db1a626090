-- The histories of a drain: one function after another, none hindered.
use Rattle.std.specs.Prelude.{◌≡◌, ℕ, ◌+◌, ◌⊎◌, true, false, List, ◌∷◌, Some}
use Rattle.fk_base.specs.Path.{PathNames}
use Rattle.fk_tree.specs.Sorted.{has_path}
use Rattle.fk_print.specs.declared.entry.Entry.{Entry}
use Rattle.fk_print.specs.declared.op.Op.{Op}
use Rattle.fk_print.specs.declared.op.Op.TheVariants as op
use Rattle.fk_spec.specs.Plan.{Plan}
use Rattle.fk_spec.specs.Start.{starts_of}
use Rattle.fk_spec.specs.Locks.{granted, last_grant, may_grant}
use Rattle.fk_spec.specs.Settling.{settled_of}
use Rattle.fk_spec.specs.Lanes.{follows_session, leads, notifies, removed_by}
use Rattle.fk_spec.specs.Function.{Place, Absent, Following, Leading, Telling, Beating, is_absent, place_of}
use Rattle.fk_spec.specs.Schedule.{drain_begin, next_of_drain, Plays}
use Rattle.fk_spec.specs.Next.{IsHistory}
use Rattle.fk_law.specs.Losing.{IsOwn}
use Rattle.fk_law.specs.Progress.{Progress, Commits, Expires, Loses, Works, progress}

-- A history of a drain: that after its begin, or one more entry, at the event that is next.
pub data IsOfDrain (p : Plan) : List Entry → Type 0 where
  Begins : (g h : List Entry) → Plays (drain_begin p g) g h → IsOfDrain p h
  Goes : (h : List Entry) (x : Entry) → IsOfDrain p h → next_of_drain p h ≡ Some x.event → IsOfDrain p (x ∷ h)

-- where a follower may hold locks
abbrev pub HoldsLocks : Progress → Type 0
HoldsLocks Works = Unit {0}
HoldsLocks (Commits t) = Unit {0}
HoldsLocks _ = ⊥

abbrev pub IsHolder : Place → Type 0
IsHolder (Following f) = HoldsLocks (progress f.stage)
IsHolder _ = ⊥

-- a follower that isn't settled yet has the request that its session settles next, and it loses no lock
abbrev pub SettlesNext : ℕ → ℕ → Progress → Type 0
SettlesNext settled k Works = settled + 1 ≡ k
SettlesNext settled k Expires = settled + 1 ≡ k
SettlesNext settled k (Commits t) = settled + 1 ≡ k
SettlesNext settled k Loses = ⊥
SettlesNext settled k _ = Unit {0}

-- a function works on the head of its lane; none is a heartbeat
abbrev pub WorksOnTheHead : List Entry → Place → Type 0
WorksOnTheHead h Absent = Unit {0}
WorksOnTheHead h (Following f) = (f.k ≡ removed_by (follows_session f.session) h + 1) × SettlesNext (settled_of f.session h) f.k (progress f.stage)
WorksOnTheHead h (Leading t stage) = t ≡ removed_by leads h + 1
WorksOnTheHead h (Telling w t stage) = w ≡ removed_by notifies h + 1
WorksOnTheHead h (Beating c stage) = ⊥

-- At most function n is in flight, the last that was started. It works on the head of its lane, and was granted last
-- each path that it was granted; each other lock may be granted.
pub record IsCalm (p : Plan) (n : ℕ) (h : List Entry) : Type 0 where
  pub last : n ≡ starts_of h
  pub one : (m : ℕ) → is_absent (place_of p m h) ≡ false → m ≡ n
  pub works : WorksOnTheHead h (place_of p n h)
  pub own : (path : PathNames) → is_absent (place_of p n h) ≡ false → has_path path (granted n h) ≡ true → IsOwn n (last_grant path h)
  pub free : (path : PathNames) → (may_grant p.lock h (last_grant path h) ≡ true) ⊎ (IsHolder (place_of p n h) × IsOwn n (last_grant path h))

-- Each history of a drain is so.
abbrev pub DrainsAreCalm : Type 0
DrainsAreCalm = (p : Plan) (h : List Entry) → IsHistory p h → IsOfDrain p h → IsCalm p (starts_of h) h

-- an operation that isn't hindered: no lock is found busy or lost, no request is found settled by another, and each
-- message that is removed is its lane's head
abbrev pub IsUnhindered : Place → Op → Type 0
IsUnhindered (Following f) (op.LockBusy n path holder moment) = ⊥
IsUnhindered (Following f) (op.RefuseSettled n code place at settled) = ⊥
IsUnhindered (Following f) (op.RefuseLock n code place at path holder moment) = ⊥
IsUnhindered (Following f) (op.CommitSettled n t settled) = ⊥
IsUnhindered (Following f) (op.CommitLock n t path holder moment) = ⊥
IsUnhindered (Following f) (op.LostOk n) = ⊥
IsUnhindered (Following f) (op.LostSettled n settled) = ⊥
IsUnhindered x (op.AckGone n) = ⊥
IsUnhindered x (op.Crash n) = ⊥
IsUnhindered x (op.Fault n word) = ⊥
IsUnhindered x _ = Unit {0}

-- No function of a drain is hindered.
abbrev pub DrainsAreUnhindered : Type 0
DrainsAreUnhindered = (p : Plan) (h : List Entry) (x : Entry) → IsHistory p (x ∷ h) → IsOfDrain p h → next_of_drain p h ≡ Some x.event → IsUnhindered (place_of p (starts_of h) h) x.op
