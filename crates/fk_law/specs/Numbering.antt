-- Commits by their numbers: on a path and in a session they rise, and each fits those of lesser numbers.
use Rattle.std.specs.Prelude.{◌≡◌, ℕ, ◌+◌, ◌==◌, ◌<◌, ◌≤◌, true, false, if◌then◌else◌, List, [], ◌∷◌, Some}
use Rattle.fk_base.specs.Path.{PathNames}
use Rattle.fk_tree.specs.Edit.{view_after}
use Rattle.fk_tree.specs.Sorted.{has_path}
use Rattle.fk_tree.specs.Touch.{edited_paths}
use Rattle.fk_tree.specs.declared.applied.Applied.{Applied}
use Rattle.fk_tree.specs.Rows.{is_of}
use Rattle.fk_print.specs.declared.entry.Entry.{Entry}
use Rattle.fk_law_tree.specs.Fitting.{Fits}
use Rattle.fk_law_tree.specs.Locking.{ListsOwned}
use Rattle.fk_spec.specs.Plan.{Plan}
use Rattle.fk_spec.specs.Start.{Pushed, pushed_of}
use Rattle.fk_spec.specs.Locks.{granted}
use Rattle.fk_spec.specs.Settling.{last_of_session}
use Rattle.fk_spec.specs.Stored.{committed_of, committed_as, gone_after, last_edit, last_editor, stored_view, up_to}
use Rattle.fk_spec.specs.Next.{IsHistory}
use Rattle.fk_law.specs.Due.{IsPushOf}
use Rattle.fk_law.specs.Losing.{IsLive}

-- the last of a session's commits, 0 where there is none
abbrev pub last_in : ℕ → List Applied → ℕ
last_in c [] = 0
last_in c (a ∷ done) = if a.session == c then a.tx else last_in c done

-- a commit beyond those before it that edited one of its paths, or were of its session
pub record IsNewest (done : List Applied) (a : Applied) : Type 0 where
  pub paths : (q : PathNames) → has_path q (edited_paths a) ≡ true → last_editor q done < a.tx
  pub session : last_in a.session done < a.tx

abbrev pub AllNewest : List Applied → Type 0
AllNewest [] = Unit {0}
AllNewest (a ∷ done) = IsNewest done a × AllNewest done

-- A live push is beyond the last commit of its session and of each path that its function was granted.
abbrev pub LivePushIsNewest : Type 0
LivePushIsNewest = (p : Plan) (t n c k : ℕ) (h : List Entry) → IsHistory p h → IsLive t h → IsPushOf t n c k h → (last_of_session c h < t) × ((q : PathNames) → has_path q (granted n h) ≡ true → last_edit p q h < t)

-- Each commit is beyond those before it that edited one of its paths, or were of its session.
abbrev pub CommitsRise : Type 0
CommitsRise = (p : Plan) (h : List Entry) → IsHistory p h → AllNewest (committed_of p h)

-- What the commits up to a number leave at a path is what all leave there, where none beyond the number edited
-- it; and so with the closing of a session.
abbrev pub LaterNumbersLeave : Type 0
LaterNumbersLeave =
    (p : Plan) (n : ℕ) (h : List Entry) → IsHistory p h
    → ((q : PathNames) → last_edit p q h ≤ n → (view_after (up_to n (committed_of p h))).node q ≡ (stored_view p h).node q) × ((c : ℕ) → last_of_session c h ≤ n → (view_after (up_to n (committed_of p h))).closed c ≡ (stored_view p h).closed c)

-- Each commit fits what those of lesser numbers leave, whenever they were made.
abbrev pub CommitFitsAtItsNumber : Type 0
CommitFitsAtItsNumber = (p : Plan) (n t : ℕ) (h : List Entry) (a : Applied) → IsHistory p h → committed_as p t h ≡ Some a → n + 1 ≡ t → Fits (view_after (up_to n (committed_of p h))) a

-- A live close removes all that its session owns at its number, and at each beyond it.
abbrev pub CloseListsAll : Type 0
CloseListsAll = (p : Plan) (t n : ℕ) (h : List Entry) (y : Pushed) → IsHistory p h → IsLive t h → pushed_of p t h ≡ Some y → t ≤ n + 1 → ListsOwned (view_after (up_to n (committed_of p h))) y.session y.request (gone_after y.session (committed_of p h) y.request)

-- A closed session owns no node.
abbrev pub ClosedSessionOwnsNothing : Type 0
ClosedSessionOwnsNothing = (p : Plan) (c : ℕ) (h : List Entry) (q : PathNames) → IsHistory p h → 1 ≤ c → (stored_view p h).closed c ≡ true → is_of c ((stored_view p h).node q) ≡ false
