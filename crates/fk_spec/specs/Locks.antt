-- The timed lock of each path.
use Rattle.std.specs.Prelude.{ℕ, ◌+◌, ◌==◌, Bool, true, false, if◌then◌else◌, ◌&&◌, ◌||◌, not, List, [], ◌∷◌, ◌++◌, Option, Some, None}
use Rattle.fk_base.specs.Times.{has_passed}
use Rattle.fk_base.specs.Path.{PathNames, same_path}
use Rattle.fk_print.specs.declared.entry.Entry.{Entry}
use Rattle.fk_print.specs.declared.op.Op.{Op}
use Rattle.fk_print.specs.declared.op.Op.TheVariants as op
use Rattle.fk_spec.specs.Start.{Push, push_of, clock_of}

-- a grant: the function that has the lock, and when it was granted
pub record Grant : Type 0 where
  pub holder : ℕ
  pub moment : ℕ

abbrev pub grant_in : PathNames → ℕ → Op → Option Grant → Option Grant
grant_in p moment (op.LockOk function path) o = if same_path path p then Some (record { holder = function; moment = moment }) else o
grant_in p moment _ o = o

-- the last grant of a path's lock
abbrev pub last_grant : PathNames → List Entry → Option Grant
last_grant p [] = None
last_grant p (e ∷ h) = grant_in p (clock_of h) e.op (last_grant p h)

abbrev pub is_push_of : ℕ → Option Push → Bool
is_push_of n None = false
is_push_of n (Some p) = p.function == n

-- a commit of its push and a refusal release all locks of a function
abbrev pub releases : ℕ → List Entry → Op → Bool
releases n h (op.CommitOk function tx) = is_push_of n (push_of tx h)
releases n h (op.RefuseOk function code place at) = function == n
releases n h _ = false

abbrev pub has_released : ℕ → List Entry → Bool
has_released n [] = false
has_released n (e ∷ h) = releases n h e.op || has_released n h

-- A lock may be granted where none is held, or where the clock exceeds the held lock's moment by more
-- than the deployment's lock time.
abbrev pub may_grant : ℕ → List Entry → Option Grant → Bool
may_grant lock h None = true
may_grant lock h (Some g) = has_released g.holder h || has_passed lock g.moment (clock_of h)

-- whether the lock is held by function n
abbrev pub is_held_by : ℕ → List Entry → Option Grant → Bool
is_held_by n h None = false
is_held_by n h (Some g) = (g.holder == n) && not (has_released n h)

abbrev pub granted_in : ℕ → Op → List PathNames → List PathNames
granted_in n (op.LockOk function path) ps = if function == n then ps ++ path ∷ [] else ps
granted_in n _ ps = ps

-- the paths that function n was granted, in order
abbrev pub granted : ℕ → List Entry → List PathNames
granted n [] = []
granted n (e ∷ h) = granted_in n e.op (granted n h)

-- a path whose lock passed on, with its last grant
pub record Passed : Type 0 where
  pub path : PathNames
  pub holder : ℕ
  pub moment : ℕ

abbrev pub passed_on : PathNames → Option Grant → Passed
passed_on p None = record { path = p; holder = 0; moment = 0 }
passed_on p (Some g) = record { path = p; holder = g.holder; moment = g.moment }

-- the first of the paths whose lock function n doesn't hold
abbrev pub first_passed : ℕ → List Entry → List PathNames → Option Passed
first_passed n h [] = None
first_passed n h (p ∷ ps) = if is_held_by n h (last_grant p h) then first_passed n h ps else Some (passed_on p (last_grant p h))

abbrev pub own_moment_in : ℕ → PathNames → ℕ → Op → ℕ → ℕ
own_moment_in n p moment (op.LockOk function path) m = if (function == n) && same_path path p then moment else m
own_moment_in n p moment _ m = m

-- when function n was last granted this path
abbrev pub own_moment : ℕ → PathNames → List Entry → ℕ
own_moment n p [] = 0
own_moment n p (e ∷ h) = own_moment_in n p (clock_of h) e.op (own_moment n p h)

-- a lock that a function lost: when it was granted, who was found to have it and since when
pub record Loss : Type 0 where
  pub path : PathNames
  pub own : ℕ
  pub found : ℕ
  pub moment : ℕ

abbrev pub loss_at : ℕ → List Entry → ℕ → PathNames → ℕ → ℕ → Option Loss → Option Loss
loss_at n h function path holder moment o = if function == n then Some (record { path = path; own = own_moment n path h; found = holder; moment = moment }) else o

abbrev pub loss_in : ℕ → List Entry → Op → Option Loss → Option Loss
loss_in n h (op.CommitLock function tx path holder moment) o = loss_at n h function path holder moment o
loss_in n h (op.RefuseLock function code place at path holder moment) o = loss_at n h function path holder moment o
loss_in n h _ o = o

-- what function n found at its last miss of a lock
abbrev pub loss_of : ℕ → List Entry → Option Loss
loss_of n [] = None
loss_of n (e ∷ h) = loss_in n h e.op (loss_of n h)
