-- What was swept last, of all pushes and of those that touch a path.
use Rattle.std.specs.Prelude.{◌≡◌, ℕ, ◌<◌, ◌≤◌, ◌++◌, true, List}
use Rattle.fk_base.specs.Path.{PathNames}
use Rattle.fk_tree.specs.Watch.{has_touch}
use Rattle.fk_print.specs.declared.entry.Entry.{Entry}
use Rattle.fk_print.specs.declared.op.Op.TheVariants as op
use Rattle.fk_spec.specs.Plan.{Plan}
use Rattle.fk_spec.specs.Settling.{is_committed, swept_of}
use Rattle.fk_spec.specs.Watches.{touches_of_push, last_sweep}
use Rattle.fk_spec.specs.Next.{IsHistory}
use Rattle.fk_law.specs.Due.{IsDue}
use Rattle.fk_law.specs.LeaderLane.{is_swept}

-- The touches of a committed push never change.
abbrev pub TouchesNeverChange : Type 0
TouchesNeverChange = (p : Plan) (t : ℕ) (h more : List Entry) → IsHistory p (more ++ h) → is_committed t h ≡ true → touches_of_push p t (more ++ h) ≡ touches_of_push p t h

-- A push that is swept is committed, and beyond each one that was swept before.
abbrev pub SweepsRise : Type 0
SweepsRise = (p : Plan) (n t s fired : ℕ) (h : List Entry) → IsHistory p h → IsDue p h (op.SweepOk n t fired) → is_swept s h ≡ true → (is_committed t h ≡ true) × (s < t)

-- The number that was swept last is the greatest sweep.
abbrev pub SweptOfIsTheGreatest : Type 0
SweptOfIsTheGreatest = (p : Plan) (t : ℕ) (h : List Entry) → IsHistory p h → (1 ≤ swept_of h → is_swept (swept_of h) h ≡ true) × (is_swept t h ≡ true → t ≤ swept_of h)

-- push t was swept, and touches the path
abbrev pub IsSweepOf : Plan → PathNames → ℕ → List Entry → Type 0
IsSweepOf p path t h = (is_swept t h ≡ true) × (has_touch path (touches_of_push p t h) ≡ true)

-- The last sweep of a path is the last sweep of a push that touches it.
abbrev pub LastSweepOfAPath : Type 0
LastSweepOfAPath = (p : Plan) (path : PathNames) (t : ℕ) (h : List Entry) → IsHistory p h → (1 ≤ last_sweep p path h → IsSweepOf p path (last_sweep p path h) h) × (IsSweepOf p path t h → t ≤ last_sweep p path h)
