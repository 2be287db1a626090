-- Pushes that can't be committed any more.
use Rattle.std.specs.Prelude.{◌≡◌, ◌≢◌, ℕ, ◌+◌, ◌≤◌, ◌++◌, ◌⊎◌, true, false, List, Option, Some, None}
use Rattle.fk_base.specs.Path.{PathNames}
use Rattle.fk_tree.specs.Sorted.{has_path}
use Rattle.fk_print.specs.declared.entry.Entry.{Entry}
use Rattle.fk_print.specs.declared.op.Op.TheVariants as op
use Rattle.fk_spec.specs.Plan.{Plan}
use Rattle.fk_spec.specs.Locks.{Grant, last_grant, granted}
use Rattle.fk_spec.specs.Settling.{is_committed, settled_of}
use Rattle.fk_spec.specs.Next.{IsHistory}
use Rattle.fk_spec.specs.Follower.{commit_op}
use Rattle.fk_law.specs.Due.{IsDue, IsPushOf}

-- another function than n was granted it last
abbrev pub IsOthers : ℕ → Option Grant → Type 0
IsOthers n None = ⊥
IsOthers n (Some g) = g.holder ≢ n

-- function n was granted a path whose last grant is another function's
pub record IsOvertaken (n : ℕ) (h : List Entry) : Type 0 where
  pub path : PathNames
  pub granted : has_path path (granted n h) ≡ true
  pub other : IsOthers n (last_grant path h)

-- A push is dead where it isn't committed, and its request is settled or its function was overtaken.
pub record IsDead (t : ℕ) (h : List Entry) : Type 0 where
  pub function : ℕ
  pub session : ℕ
  pub k : ℕ
  pub is_of : IsPushOf t function session k h
  pub uncommitted : is_committed t h ≡ false
  pub cause : (k ≤ settled_of session h) ⊎ IsOvertaken function h

-- A dead push never commits.
abbrev pub DeadPushNeverCommits : Type 0
DeadPushNeverCommits = (p : Plan) (t : ℕ) (h more : List Entry) → IsHistory p (more ++ h) → IsDead t h → is_committed t (more ++ h) ≡ false

-- A push that isn't committed and has a granted path whose last grant is another function's never commits.
abbrev pub OvertakenPushNeverCommits : Type 0
OvertakenPushNeverCommits = (p : Plan) (t n c k : ℕ) (h more : List Entry) → IsHistory p (more ++ h) → IsPushOf t n c k h → IsOvertaken n h → is_committed t h ≡ false → is_committed t (more ++ h) ≡ false

-- function n was granted it last
abbrev pub IsOwn : ℕ → Option Grant → Type 0
IsOwn n None = ⊥
IsOwn n (Some g) = g.holder ≡ n

-- A push is live where it isn't committed, its request is the next to settle, and each path that its
-- function was granted was granted to it last.
pub record IsLive (t : ℕ) (h : List Entry) : Type 0 where
  pub function : ℕ
  pub session : ℕ
  pub k : ℕ
  pub is_of : IsPushOf t function session k h
  pub uncommitted : is_committed t h ≡ false
  pub next : settled_of session h + 1 ≡ k
  pub own : (path : PathNames) → has_path path (granted function h) ≡ true → IsOwn function (last_grant path h)

-- Each push is live, dead or committed.
abbrev pub PushIsLiveDeadOrCommitted : Type 0
PushIsLiveDeadOrCommitted = (p : Plan) (t n c k : ℕ) (h : List Entry) → IsHistory p h → IsPushOf t n c k h → IsLive t h ⊎ (IsDead t h ⊎ (is_committed t h ≡ true))

-- A push commits exactly where it is live, whoever tries.
abbrev pub LiveCommits : Type 0
LiveCommits = (p : Plan) (actor t n c k : ℕ) (h : List Entry) → IsHistory p h → IsPushOf t n c k h → IsLive t h → commit_op h actor t n c k ≡ op.CommitOk actor t

abbrev pub CommitterIsLive : Type 0
CommitterIsLive = (p : Plan) (actor t : ℕ) (h : List Entry) → IsHistory p h → IsDue p h (op.CommitOk actor t) → IsLive t h

-- Where the committing of a push misses, the push is dead or committed.
abbrev pub SettledMissIsOver : Type 0
SettledMissIsOver = (p : Plan) (actor t settled : ℕ) (h : List Entry) → IsHistory p h → IsDue p h (op.CommitSettled actor t settled) → IsDead t h ⊎ (is_committed t h ≡ true)

abbrev pub LockMissIsDead : Type 0
LockMissIsDead = (p : Plan) (actor t holder moment : ℕ) (path : PathNames) (h : List Entry) → IsHistory p h → IsDue p h (op.CommitLock actor t path holder moment) → IsDead t h

-- A dead push stays dead.
abbrev pub DeadStaysDead : Type 0
DeadStaysDead = (p : Plan) (t : ℕ) (h more : List Entry) → IsHistory p (more ++ h) → IsDead t h → IsDead t (more ++ h)
