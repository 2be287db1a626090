-- What a follower knows of its session's commits.
use Rattle.std.specs.Prelude.{◌≡◌, ℕ, ◌+◌, ◌<◌, ◌≤◌, true, List}
use Rattle.fk_print.specs.declared.entry.Entry.{Entry}
use Rattle.fk_print.specs.declared.op.Op.TheVariants as op
use Rattle.fk_spec.specs.Plan.{Plan}
use Rattle.fk_spec.specs.Settling.{is_committed, settled_of, last_of_session}
use Rattle.fk_spec.specs.Follower.{Follower}
use Rattle.fk_spec.specs.Function.{Following, place_of}
use Rattle.fk_spec.specs.Next.{IsHistory}
use Rattle.fk_law.specs.Due.{IsDue, IsPushOf}
use Rattle.fk_law.specs.Progress.{Works, progress}

-- The last commit of a session is committed, of the session, and the greatest of its commits.
abbrev pub LastIsCommitted : Type 0
LastIsCommitted = (p : Plan) (c : ℕ) (h : List Entry) → IsHistory p h → 1 ≤ last_of_session c h → is_committed (last_of_session c h) h ≡ true

abbrev pub LastIsTheGreatest : Type 0
LastIsTheGreatest = (p : Plan) (t n c k : ℕ) (h : List Entry) → IsHistory p h → is_committed t h ≡ true → IsPushOf t n c k h → t ≤ last_of_session c h

-- A push that commits is beyond the last commit of its session.
abbrev pub CommitIsBeyondTheLast : Type 0
CommitIsBeyondTheLast = (p : Plan) (actor t n c k : ℕ) (h : List Entry) → IsHistory p h → IsDue p h (op.CommitOk actor t) → IsPushOf t n c k h → last_of_session c h < t

-- Where a follower is at work on the request that its session settles next, it knows the session's last commit.
abbrev pub AtWorkKnowsTheLast : Type 0
AtWorkKnowsTheLast = (p : Plan) (n : ℕ) (h : List Entry) (f : Follower) → IsHistory p h → place_of p n h ≡ Following f → progress f.stage ≡ Works → settled_of f.session h + 1 ≡ f.k → f.last ≡ last_of_session f.session h
