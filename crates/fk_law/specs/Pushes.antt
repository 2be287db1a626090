-- Pushes: their numbers, their functions and their requests.
use Rattle.std.specs.Prelude.{◌≡◌, ℕ, ◌≤◌, ◌++◌, List, Some}
use Rattle.fk_print.specs.declared.entry.Entry.{Entry}
use Rattle.fk_spec.specs.Plan.{Plan}
use Rattle.fk_spec.specs.Start.{Follows, Push, task_of, pushes_of, push_of}
use Rattle.fk_spec.specs.Function.{place_of}
use Rattle.fk_spec.specs.Next.{IsHistory}
use Rattle.fk_law.specs.Due.{IsPushOf, Commits}

-- Pushes have the numbers from 1 to their count.
abbrev pub PushesAreNumbered : Type 0
PushesAreNumbered = (p : Plan) (t : ℕ) (h : List Entry) (x : Push) → IsHistory p h → push_of t h ≡ Some x → (x.tx ≡ t) × (1 ≤ t) × (t ≤ pushes_of h)

abbrev pub EachNumberIsAPush : Type 0
EachNumberIsAPush = (p : Plan) (t : ℕ) (h : List Entry) → IsHistory p h → 1 ≤ t → t ≤ pushes_of h → (x : Push) × (push_of t h ≡ Some x)

-- A push never changes.
abbrev pub PushNeverChanges : Type 0
PushNeverChanges = (p : Plan) (t : ℕ) (h more : List Entry) (x : Push) → IsHistory p (more ++ h) → push_of t h ≡ Some x → push_of t (more ++ h) ≡ Some x

-- A push's function was started for a request, which the push is of.
abbrev pub PushIsOfARequest : Type 0
PushIsOfARequest = (p : Plan) (t : ℕ) (h : List Entry) (x : Push) → IsHistory p h → push_of t h ≡ Some x → (c k : ℕ) × (task_of x.function h ≡ Some (Follows c k))

-- Who is about to commit a push, commits it for its function and its request.
abbrev pub CommitterCommitsAPush : Type 0
CommitterCommitsAPush = (p : Plan) (n t m c k : ℕ) (h : List Entry) → IsHistory p h → Commits n t m c k h (place_of p n h) → IsPushOf t m c k h

-- Two pushes have two functions.
abbrev pub OnePushForEachFunction : Type 0
OnePushForEachFunction = (p : Plan) (t s n c k d j : ℕ) (h : List Entry) → IsHistory p h → IsPushOf t n c k h → IsPushOf s n d j h → t ≡ s
