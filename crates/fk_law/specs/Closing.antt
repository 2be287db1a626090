-- Closed sessions.
use Rattle.std.specs.Prelude.{◌≡◌, ℕ, ◌+◌, false, List}
use Rattle.fk_print.specs.declared.entry.Entry.{Entry}
use Rattle.fk_print.specs.declared.op.Op.TheVariants as op
use Rattle.fk_spec.specs.Plan.{Plan}
use Rattle.fk_spec.specs.Settling.{settled_of}
use Rattle.fk_spec.specs.Stored.{stored_view}
use Rattle.fk_spec.specs.Follower.{Follower}
use Rattle.fk_spec.specs.Function.{Following, place_of}
use Rattle.fk_spec.specs.Next.{IsHistory}
use Rattle.fk_law.specs.Due.{IsDue, IsPushOf}
use Rattle.fk_law.specs.Progress.{Works, progress}

-- Where a follower is at work on the request that its session settles next, no close of the session was committed.
abbrev pub AtWorkIsOpen : Type 0
AtWorkIsOpen = (p : Plan) (n : ℕ) (h : List Entry) (f : Follower) → IsHistory p h → place_of p n h ≡ Following f → progress f.stage ≡ Works → settled_of f.session h + 1 ≡ f.k → (stored_view p h).closed f.session ≡ false

-- A closed session has no push of the request that it settles next.
abbrev pub ClosedHasNoLivePush : Type 0
ClosedHasNoLivePush = (p : Plan) (t n c k : ℕ) (h : List Entry) → IsHistory p h → IsPushOf t n c k h → settled_of c h + 1 ≡ k → (stored_view p h).closed c ≡ false

-- Nothing of a session commits after a close of it was committed.
abbrev pub NoCommitAfterClose : Type 0
NoCommitAfterClose = (p : Plan) (actor t n c k : ℕ) (h : List Entry) → IsHistory p h → IsDue p h (op.CommitOk actor t) → IsPushOf t n c k h → (stored_view p h).closed c ≡ false
