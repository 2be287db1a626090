-- Functions: their numbers and their tasks.
use Rattle.std.specs.Prelude.{◌≡◌, ℕ, ◌+◌, ◌≤◌, ◌++◌, false, List, Option, Some}
use Rattle.fk_print.specs.declared.entry.Entry.{Entry}
use Rattle.fk_spec.specs.Plan.{Plan}
use Rattle.fk_spec.specs.Start.{Task, Follows, Leads, Notifies, Probes, starts_of, task_of}
use Rattle.fk_spec.specs.Lanes.{notifies, removed_by, notes_of}
use Rattle.fk_spec.specs.Function.{Place, Absent, Following, Leading, Telling, Beating, place_of, is_absent}
use Rattle.fk_spec.specs.Next.{IsHistory}

-- a function that stands there was started for this task
abbrev pub IsFor : Option Task → Place → Type 0
IsFor o Absent = Unit {0}
IsFor o (Following f) = o ≡ Some (Follows f.session f.k)
IsFor o (Leading t stage) = o ≡ Some (Leads t)
IsFor o (Telling w t stage) = o ≡ Some (Notifies w)
IsFor o (Beating c stage) = o ≡ Some (Probes c)

-- A function that was started has a number from 1 to the count of starts.
abbrev pub StartedAreNumbered : Type 0
StartedAreNumbered = (p : Plan) (n : ℕ) (h : List Entry) (x : Task) → IsHistory p h → task_of n h ≡ Some x → (1 ≤ n) × (n ≤ starts_of h)

-- So has a function in flight.
abbrev pub InFlightAreNumbered : Type 0
InFlightAreNumbered = (p : Plan) (n : ℕ) (h : List Entry) → IsHistory p h → is_absent (place_of p n h) ≡ false → (1 ≤ n) × (n ≤ starts_of h)

-- What a function was started for never changes.
abbrev pub TaskNeverChanges : Type 0
TaskNeverChanges = (p : Plan) (n : ℕ) (h more : List Entry) (x : Task) → IsHistory p (more ++ h) → task_of n h ≡ Some x → task_of n (more ++ h) ≡ Some x

-- A function in flight does what it was started for.
abbrev pub FunctionDoesItsTask : Type 0
FunctionDoesItsTask = (p : Plan) (n : ℕ) (h : List Entry) → IsHistory p h → IsFor (task_of n h) (place_of p n h)

-- A watch function was started for a note that is at most one beyond the removed ones.
abbrev pub TellerWorksAtOrBelowTheHead : Type 0
TellerWorksAtOrBelowTheHead = (p : Plan) (n w : ℕ) (h : List Entry) → IsHistory p h → task_of n h ≡ Some (Notifies w) → (1 ≤ w) × (w ≤ removed_by notifies h + 1) × (w ≤ notes_of h)
