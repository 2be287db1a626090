-- Pushes that can still be committed fit what the commits left, and edit only what their functions locked.
use Rattle.std.specs.Prelude.{◌≡◌, ℕ, ◌+◌, ◌++◌, true, false, List, Some}
use Rattle.fk_base.specs.Path.{PathNames}
use Rattle.fk_tree.specs.Sorted.{has_path}
use Rattle.fk_tree.specs.Touch.{edited_paths}
use Rattle.fk_tree.specs.declared.applied.Applied.{Applied}
use Rattle.fk_tree.specs.declared.request.Request.{Request}
use Rattle.fk_print.specs.declared.entry.Entry.{Entry}
use Rattle.fk_print.specs.declared.op.Op.TheVariants as op
use Rattle.fk_law_tree.specs.Fitting.{Fits}
use Rattle.fk_law_tree.specs.Following.{AllFit, IsShown}
use Rattle.fk_law_tree.specs.Locking.{Within}
use Rattle.fk_spec.specs.Plan.{Plan}
use Rattle.fk_spec.specs.Start.{Pushed, request_of, pushed_of}
use Rattle.fk_spec.specs.Locks.{last_grant, granted}
use Rattle.fk_spec.specs.Settling.{settled_of, is_committed}
use Rattle.fk_spec.specs.Stored.{committed_of, committed_as, filled_after, stored_view}
use Rattle.fk_spec.specs.Follower.{Follower, view_of}
use Rattle.fk_spec.specs.Follower as follower
use Rattle.fk_spec.specs.Function.{Following, place_of}
use Rattle.fk_spec.specs.Next.{IsHistory}
use Rattle.fk_law.specs.Due.{IsDue, IsPushOf}
use Rattle.fk_law.specs.Losing.{IsOwn, IsLive}

-- A live push, filled from what the commits left, fits that.
abbrev pub LivePushFits : Type 0
LivePushFits = (p : Plan) (t : ℕ) (h : List Entry) (y : Pushed) → IsHistory p h → IsLive t h → pushed_of p t h ≡ Some y → Fits (stored_view p h) (filled_after (committed_of p h) t y)

-- What it would edit was granted to its function.
abbrev pub LivePushEditsWhatItLocked : Type 0
LivePushEditsWhatItLocked = (p : Plan) (t n c k : ℕ) (h : List Entry) (y : Pushed) → IsHistory p h → IsLive t h → IsPushOf t n c k h → pushed_of p t h ≡ Some y → Within (edited_paths (filled_after (committed_of p h) t y)) (granted n h)

-- What a commit edited was granted to its push's function.
abbrev pub PushLocksWhatItEdits : Type 0
PushLocksWhatItEdits = (p : Plan) (t n c k : ℕ) (h : List Entry) (a : Applied) → IsHistory p h → IsPushOf t n c k h → committed_as p t h ≡ Some a → Within (edited_paths a) (granted n h)

-- Where a push commits, each path that it edits was granted to its function last.
abbrev pub OnlyTheHolderEdits : Type 0
OnlyTheHolderEdits =
    (p : Plan) (actor t n c k : ℕ) (h : List Entry) (y : Pushed) (path : PathNames) → IsHistory p h → IsDue p h (op.CommitOk actor t) → IsPushOf t n c k h → pushed_of p t h ≡ Some y
    → has_path path (edited_paths (filled_after (committed_of p h) t y)) ≡ true → IsOwn n (last_grant path h)

-- Each commit fits what those before it left, and a tree shows what they all left.
abbrev pub CommitsFit : Type 0
CommitsFit = (p : Plan) (h : List Entry) → IsHistory p h → AllFit (committed_of p h)

abbrev pub StoredTreeIsShown : Type 0
StoredTreeIsShown = (p : Plan) (h : List Entry) → IsHistory p h → IsShown (committed_of p h)

-- What is filled from the commits for a follower that is about to push fits what the follower has seen, where
-- its request is the next to settle and its locks are its own. A request fits a view in one way: so the
-- follower fills the same from what it has seen.
abbrev pub FollowerFillsTheSame : Type 0
FollowerFillsTheSame =
    (p : Plan) (n t moment : ℕ) (h : List Entry) (f : Follower) (r : Request) → IsHistory p h → place_of p n h ≡ Following f → f.stage ≡ follower.Push → request_of p f.session f.k h ≡ Some r → settled_of f.session h + 1 ≡ f.k
    → ((path : PathNames) → has_path path (granted n h) ≡ true → IsOwn n (last_grant path h)) → Fits (view_of f.granted) (filled_after (committed_of p h) t (record { session = f.session; k = f.k; moment = moment; request = r }))

-- A push is committed as it would have been at any time since it was pushed.
abbrev pub CommittedAsPushed : Type 0
CommittedAsPushed = (p : Plan) (t n c k : ℕ) (h more : List Entry) (y : Pushed) (a : Applied) → IsHistory p (more ++ h) → IsPushOf t n c k h → is_committed t h ≡ false → pushed_of p t h ≡ Some y → committed_as p t (more ++ h) ≡ Some a → a ≡ filled_after (committed_of p h) t y
