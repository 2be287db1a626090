-- The order of the commits.
use Rattle.std.specs.Prelude.{◌≡◌, ◌≢◌, ℕ, ◌<◌, ◌++◌, true, false, List}
use Rattle.fk_base.specs.Path.{PathNames}
use Rattle.fk_tree.specs.Sorted.{has_path}
use Rattle.fk_print.specs.declared.entry.Entry.{Entry}
use Rattle.fk_print.specs.declared.op.Op.TheVariants as op
use Rattle.fk_spec.specs.Plan.{Plan}
use Rattle.fk_spec.specs.Locks.{last_grant, granted}
use Rattle.fk_spec.specs.Settling.{is_committed}
use Rattle.fk_spec.specs.Next.{IsHistory}
use Rattle.fk_law.specs.Due.{IsDue, IsPushOf}
use Rattle.fk_law.specs.Losing.{IsOwn}

-- A push that commits is beyond each committed one whose function was granted one of its function's paths.
abbrev pub CommitsRiseOnAPath : Type 0
CommitsRiseOnAPath =
    (p : Plan) (actor t n c k s m d j : ℕ) (path : PathNames) (h : List Entry) → IsHistory p h → IsDue p h (op.CommitOk actor t) → IsPushOf t n c k h → IsPushOf s m d j h → is_committed s h ≡ true → has_path path (granted n h) ≡ true → has_path path (granted m h) ≡ true → s < t

-- A push that commits is beyond each committed one of its session.
abbrev pub CommitsRiseInASession : Type 0
CommitsRiseInASession =
    (p : Plan) (actor t n c k s m j : ℕ) (h : List Entry) → IsHistory p h → IsDue p h (op.CommitOk actor t) → IsPushOf t n c k h → IsPushOf s m c j h → is_committed s h ≡ true → s < t

-- Where a push commits, each path that its function was granted was granted to it last.
abbrev pub CommitterHoldsItsPaths : Type 0
CommitterHoldsItsPaths =
    (p : Plan) (actor t n c k : ℕ) (path : PathNames) (h : List Entry) → IsHistory p h → IsDue p h (op.CommitOk actor t) → IsPushOf t n c k h → has_path path (granted n h) ≡ true → IsOwn n (last_grant path h)

-- Of two uncommitted pushes whose functions were granted one path, at most one commits: where one does,
-- the other never does.
abbrev pub OneOfTwoCommits : Type 0
OneOfTwoCommits =
    (p : Plan) (actor t n c k s m d j : ℕ) (path : PathNames) (h more : List Entry) → IsHistory p (more ++ h) → IsDue p h (op.CommitOk actor t) → IsPushOf t n c k h → IsPushOf s m d j h → s ≢ t → is_committed s h ≡ false → has_path path (granted n h) ≡ true → has_path path (granted m h) ≡ true → is_committed s (more ++ h) ≡ false
