-- The state after the last lock, and before the next one.
use Rattle.std.specs.Prelude.{ℕ, List, length, max, Option, Some, None}
use Rattle.fk_base.specs.Path.{PathNames}
use Rattle.fk_tree.specs.Check.{Refusal, check}
use Rattle.fk_tree.specs.Locks.{lock_paths}
use Rattle.fk_tree.specs.declared.request.Request.{Request}
use Rattle.fk_spec.specs.Follower.{greatest_last, view_of}
use Rattle.fk_spec.specs.Plan.{item_after}
use Rattle.fk_follow.specs.Standing.{grants_of}
use Rattle.fk_follow.specs.declared.granted.Granted.{Granted}
use Rattle.fk_follow.specs.declared.state.State.{State}
use Rattle.fk_follow.specs.declared.state.State.TheVariants as state

-- it pushes where the check passes
abbrev pub decided_as : ℕ → Option Refusal → State
decided_as at None = state.Push
decided_as at (Some r) = state.Refuse r.code r.place at

abbrev pub refused_at : ℕ → ℕ → List Granted → ℕ
refused_at seen last gs = max seen (max last (greatest_last (grants_of gs)))

abbrev pub or_decided : ℕ → ℕ → ℕ → List Granted → Request → Option PathNames → State
or_decided seen session last gs r (Some p) = state.Lock p
or_decided seen session last gs r None = decided_as (refused_at seen last gs) (check (view_of (grants_of gs)) session r)

-- the state of a follower of this session that was granted these locks
abbrev pub state_after : ℕ → ℕ → ℕ → List PathNames → List Granted → Request → State
state_after seen session last owned gs r =
    or_decided seen session last gs r (item_after (lock_paths (view_of (grants_of gs)) owned r) (length gs))
