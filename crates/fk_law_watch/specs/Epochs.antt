-- Epochs: the numbers of the watches that have fired and aren't told.
use Rattle.std.specs.Prelude.{◌≡◌, ℕ, ◌<◌, ◌≤◌, true, false, List, Some, is_some}
use Rattle.fk_print.specs.declared.entry.Entry.{Entry}
use Rattle.fk_spec.specs.Plan.{Plan}
use Rattle.fk_spec.specs.Settling.{mark_of}
use Rattle.fk_spec.specs.Leader as leader
use Rattle.fk_spec.specs.Watches.{Firing, fired_watches, firing_of, ids_of, published_epoch, swept_by}
use Rattle.fk_spec.specs.Client.{contains}
use Rattle.fk_spec.specs.Function.{Leading, place_of}
use Rattle.fk_spec.specs.Next.{IsHistory}
use Rattle.fk_law_watch.specs.Noting.{is_told}

-- each number of the epoch has fired
abbrev pub HaveFired : Plan → List Entry → List ℕ → Type 0
HaveFired p h ids = (id : ℕ) → contains id ids ≡ true → is_some (firing_of p id h) ≡ true

-- Each number of a leader's epoch has fired, and as long as its push isn't published, each watch that
-- has fired and isn't told is in it.
abbrev pub IsComplete : Plan → List Entry → ℕ → List ℕ → Type 0
IsComplete p h t ids = HaveFired p h ids × (mark_of h < t → (id : ℕ) → contains id (ids_of (fired_watches p h)) ≡ true → contains id ids ≡ true)

abbrev pub HoldsSo : Type 0 → leader.Stage → Type 0
HoldsSo C (leader.Put path others) = C
HoldsSo C leader.Publish = C
HoldsSo C _ = Unit {0}

abbrev pub Holds : Plan → ℕ → List Entry → ℕ → leader.Stage → Type 0
Holds p n h t s = HoldsSo (IsComplete p h t (swept_by p n h).epoch) s

abbrev pub LeaderHoldsACompleteEpoch : Type 0
LeaderHoldsACompleteEpoch = (p : Plan) (n t : ℕ) (s : leader.Stage) (h : List Entry) → IsHistory p h → place_of p n h ≡ Leading t s → Holds p n h t s

-- Each number of the published epoch has fired.
abbrev pub EpochHasFired : Type 0
EpochHasFired = (p : Plan) (h : List Entry) → IsHistory p h → HaveFired p h (published_epoch p h)

-- A watch that fired at a push up to the mark and isn't told is in the published epoch.
abbrev pub UntoldFiredWatchIsInTheEpoch : Type 0
UntoldFiredWatchIsInTheEpoch = (p : Plan) (id : ℕ) (h : List Entry) (f : Firing) → IsHistory p h → firing_of p id h ≡ Some f → is_told f.tx h ≡ false → f.tx ≤ mark_of h → contains id (published_epoch p h) ≡ true
