-- Locks: what a grant, a release and a loss say.
use Rattle.std.specs.Prelude.{◌≡◌, ◌≢◌, ℕ, ◌+◌, ◌<◌, ◌≤◌, Bool, true, false, List, Some}
use Rattle.fk_base.specs.Path.{PathNames}
use Rattle.fk_tree.specs.Sorted.{has_path}
use Rattle.fk_print.specs.declared.entry.Entry.{Entry}
use Rattle.fk_spec.specs.Plan.{Plan}
use Rattle.fk_spec.specs.Start.{Follows, clock_of, task_of}
use Rattle.fk_spec.specs.Locks.{Grant, Loss, last_grant, granted, has_released, own_moment, loss_of}
use Rattle.fk_spec.specs.Settling.{settled_of, is_committed}
use Rattle.fk_spec.specs.Follower.{Follower}
use Rattle.fk_spec.specs.Function.{Following, place_of}
use Rattle.fk_spec.specs.Next.{IsHistory}
use Rattle.fk_law.specs.Due.{IsPushOf}
use Rattle.fk_law.specs.Progress.{Progress, Works, Expires, progress}

-- A path's last grant is of a path that its function was granted, at the function's own moment.
abbrev pub LockNamesAGrantedPath : Type 0
LockNamesAGrantedPath =
    (p : Plan) (path : PathNames) (h : List Entry) (g : Grant) → IsHistory p h → last_grant path h ≡ Some g → (has_path path (granted g.holder h) ≡ true) × (own_moment g.holder path h ≡ g.moment) × (g.moment ≤ clock_of h)

-- A function that was granted a path works on a request.
abbrev pub LocksAreFollowers : Type 0
LocksAreFollowers = (p : Plan) (n : ℕ) (path : PathNames) (h : List Entry) → IsHistory p h → has_path path (granted n h) ≡ true → (c k : ℕ) × (task_of n h ≡ Some (Follows c k))

-- A function that released its locks: its request is settled.
abbrev pub ReleasedIsSettled : Type 0
ReleasedIsSettled = (p : Plan) (n c k : ℕ) (h : List Entry) → IsHistory p h → has_released n h ≡ true → task_of n h ≡ Some (Follows c k) → k ≤ settled_of c h

-- a follower that hasn't pushed or refused has released nothing
abbrev pub Unreleased : Bool → Progress → Type 0
Unreleased released Works = released ≡ false
Unreleased released Expires = released ≡ false
Unreleased released _ = Unit {0}

abbrev pub AtWorkIsUnreleased : Type 0
AtWorkIsUnreleased = (p : Plan) (n : ℕ) (h : List Entry) (f : Follower) → IsHistory p h → place_of p n h ≡ Following f → Unreleased (has_released n h) (progress f.stage)

-- A function that has pushed released its locks exactly where its push was committed.
abbrev pub PushReleasesAtItsCommit : Type 0
PushReleasesAtItsCommit = (p : Plan) (t n c k : ℕ) (h : List Entry) → IsHistory p h → IsPushOf t n c k h → has_released n h ≡ is_committed t h

-- Where the request of a function is the next to settle, and another function was granted one of its
-- paths last, that was more than the lock time after its own grant.
abbrev pub OvertakenOnlyAfterExpiry : Type 0
OvertakenOnlyAfterExpiry =
    (p : Plan) (n c k : ℕ) (path : PathNames) (g : Grant) (h : List Entry) → IsHistory p h → task_of n h ≡ Some (Follows c k) → settled_of c h + 1 ≡ k → has_path path (granted n h) ≡ true → last_grant path h ≡ Some g → g.holder ≢ n → own_moment n path h + p.lock < g.moment

-- A lock that a follower lost was found with another function, granted more than the lock time after
-- its own grant.
abbrev pub LossIsAfterExpiry : Type 0
LossIsAfterExpiry = (p : Plan) (n c k : ℕ) (x : Loss) (h : List Entry) → IsHistory p h → task_of n h ≡ Some (Follows c k) → loss_of n h ≡ Some x → (x.found ≢ n) × (x.own + p.lock < x.moment)
