-- What a follower has seen of the paths that it was granted, and what it decides from that.
use Rattle.std.specs.Prelude.{◌≡◌, ℕ, ◌+◌, true, List, [], ◌∷◌, ◌++◌, Option, Some, None, length}
use Rattle.fk_base.specs.Path.{PathNames}
use Rattle.fk_tree.specs.Check.{check}
use Rattle.fk_tree.specs.Edit.{closes}
use Rattle.fk_tree.specs.Locks.{lock_paths}
use Rattle.fk_tree.specs.Sorted.{has_path}
use Rattle.fk_tree.specs.declared.request.Request.{Request}
use Rattle.fk_tree.specs.Rows.{is_of}
use Rattle.fk_print.specs.declared.entry.Entry.{Entry}
use Rattle.fk_spec.specs.Plan.{Plan, item_after}
use Rattle.fk_spec.specs.Start.{request_of, seen_with}
use Rattle.fk_spec.specs.Locks.{last_grant, granted}
use Rattle.fk_spec.specs.Settling.{settled_of}
use Rattle.fk_spec.specs.Stored.{stored_view, last_edit}
use Rattle.fk_spec.specs.Follower.{Follower, Granted, view_of, refusal_number, paths_of}
use Rattle.fk_spec.specs.Follower as follower
use Rattle.fk_spec.specs.Function.{Following, place_of}
use Rattle.fk_spec.specs.Next.{IsHistory}
use Rattle.fk_law.specs.Losing.{IsOwn}
use Rattle.fk_law.specs.Progress.{Works, progress}

-- A follower's records are of the paths that it was granted, in the order of the grants.
abbrev pub RecordsAreOfItsGrants : Type 0
RecordsAreOfItsGrants = (p : Plan) (n : ℕ) (h : List Entry) (f : Follower) → IsHistory p h → place_of p n h ≡ Following f → paths_of f.granted ≡ granted n h

-- What a record showed is so: the node of its path, and the last commit that edited it.
pub record IsCurrent (p : Plan) (h : List Entry) (g : Granted) : Type 0 where
  pub node : g.node ≡ (stored_view p h).node g.path
  pub last : g.last ≡ last_edit p g.path h

-- each of these records is current whose path was granted to function n last
abbrev pub AreCurrent : Plan → ℕ → List Entry → List Granted → Type 0
AreCurrent p n h [] = Unit {0}
AreCurrent p n h (g ∷ gs) = (IsOwn n (last_grant g.path h) → IsCurrent p h g) × AreCurrent p n h gs

-- While a follower is at work, what it has seen of a path is current for as long as no other function is
-- granted the path.
abbrev pub ViewIsCurrentWhileTheLockIsOwn : Type 0
ViewIsCurrentWhileTheLockIsOwn = (p : Plan) (n : ℕ) (h : List Entry) (f : Follower) → IsHistory p h → place_of p n h ≡ Following f → progress f.stage ≡ Works → AreCurrent p n h f.granted

-- the path that a follower of this request locks next, where one is left
abbrev pub next_lock : Request → Follower → Option PathNames
next_lock r f = item_after (lock_paths (view_of f.granted) f.owned r) (length f.granted)

-- What a follower has seen brings it where it stands: to read what its session owns, where it is to close;
-- to the next path to lock, where one is left; else to push, where the check passes on what it has seen;
-- else to refuse as the check says, at the refusal's number. `seen` is what the client had seen.
abbrev pub DecidesSo : ℕ → Request → Follower → follower.Stage → Type 0
DecidesSo seen r f follower.Owned = (closes r ≡ true) × (f.granted ≡ [])
DecidesSo seen r f (follower.Lock path) = next_lock r f ≡ Some path
DecidesSo seen r f follower.Push = (next_lock r f ≡ None) × (check (view_of f.granted) f.session r ≡ None)
DecidesSo seen r f (follower.Refuse x at) = (next_lock r f ≡ None) × (check (view_of f.granted) f.session r ≡ Some x) × (at ≡ refusal_number seen f)
DecidesSo seen r f _ = Unit {0}

abbrev pub FollowerDecidesFromItsViews : Type 0
FollowerDecidesFromItsViews = (p : Plan) (n : ℕ) (h : List Entry) (f : Follower) (r : Request) → IsHistory p h → place_of p n h ≡ Following f → request_of p f.session f.k h ≡ Some r → DecidesSo (seen_with f.session f.k h) r f f.stage

-- a follower that stands there goes by the lock paths of its request
abbrev pub Locks : follower.Stage → Type 0
Locks (follower.Lock path) = Unit {0}
Locks follower.Push = Unit {0}
Locks (follower.Refuse x at) = Unit {0}
Locks _ = ⊥

-- What it was granted are the first of its request's lock paths, in their order.
abbrev pub GrantsAreTheFirstLockPaths : Type 0
GrantsAreTheFirstLockPaths =
    (p : Plan) (n : ℕ) (h : List Entry) (f : Follower) (r : Request) → IsHistory p h → place_of p n h ≡ Following f → request_of p f.session f.k h ≡ Some r → Locks f.stage
    → (others : List PathNames) × (lock_paths (view_of f.granted) f.owned r ≡ paths_of f.granted ++ others)

-- A follower that closes has listed each node that its session owns, where its request is the next to settle.
abbrev pub OwnedListIsComplete : Type 0
OwnedListIsComplete =
    (p : Plan) (n : ℕ) (h : List Entry) (f : Follower) (r : Request) (path : PathNames) → IsHistory p h → place_of p n h ≡ Following f → request_of p f.session f.k h ≡ Some r → closes r ≡ true → Locks f.stage
    → settled_of f.session h + 1 ≡ f.k → is_of f.session ((stored_view p h).node path) ≡ true → has_path path f.owned ≡ true
