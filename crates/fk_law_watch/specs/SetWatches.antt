-- The watches that are set, and how they fire.
use Rattle.std.specs.Prelude.{◌≡◌, ℕ, ◌==◌, ◌<◌, ◌≤◌, ◌++◌, ◌⊎◌, true, List, [], ◌∷◌, Option, Some, None, is_some}
use Rattle.fk_base.specs.Path.{same_path}
use Rattle.fk_tree.specs.Watch.{first_taken, same_kind}
use Rattle.fk_tree.specs.declared.change.Change.{Change}
use Rattle.fk_print.specs.declared.entry.Entry.{Entry}
use Rattle.fk_print.specs.declared.op.Op.{Op}
use Rattle.fk_print.specs.declared.op.Op.TheVariants as op
use Rattle.fk_spec.specs.Plan.{Plan}
use Rattle.fk_spec.specs.Start.{or_else, when}
use Rattle.fk_spec.specs.Watches.{Watch, Firing, set_watches, given_of, firing_of, firing_in, touches_of_push}
use Rattle.fk_spec.specs.Next.{IsHistory}
use Rattle.fk_spec.specs.WatchNumbers.{watch_with}
use Rattle.fk_law.specs.Due.{IsDue}
use Rattle.fk_law.specs.LeaderLane.{is_swept}
use Rattle.fk_law_watch.specs.Registering.{number_of_read}

-- watch `id`, where it is set
abbrev pub set_watch : Plan → ℕ → List Entry → Option Watch
set_watch p id h = watch_with id (set_watches p h)

abbrev pub registered_in : Plan → ℕ → List Entry → Op → Option ℕ
registered_in p id h (op.WatchSet session command watch) = when (watch == id) (number_of_read p session h)
registered_in p id h _ = None

-- The first number of watch `id`: that of the read that set it.
abbrev pub first_of : Plan → ℕ → List Entry → Option ℕ
first_of p id [] = None
first_of p id (e ∷ h) = or_else (first_of p id h) (registered_in p id h e.op)

-- what a watch takes of the touches of push t
abbrev pub taken_of : Plan → Watch → ℕ → List Entry → Option Change
taken_of p w t h = first_taken w.path w.kind (touches_of_push p t h)

-- Each number that was given is of a watch that is set or that has fired, not both.
abbrev pub IsOneOfTwo : Option Watch → Option Firing → Type 0
IsOneOfTwo (Some w) None = Unit {0}
IsOneOfTwo None (Some f) = Unit {0}
IsOneOfTwo _ _ = ⊥

abbrev pub WatchIsSetOrFired : Type 0
WatchIsSetOrFired = (p : Plan) (id : ℕ) (h : List Entry) → IsHistory p h → 1 ≤ id → id ≤ given_of h → IsOneOfTwo (set_watch p id h) (firing_of p id h)

abbrev pub SetOrFiredWereGiven : Type 0
SetOrFiredWereGiven = (p : Plan) (id : ℕ) (h : List Entry) → IsHistory p h → (is_some (set_watch p id h) ≡ true) ⊎ (is_some (firing_of p id h) ≡ true) → (1 ≤ id) × (id ≤ given_of h)

-- A watch fires at most once, and what it fired as never changes.
abbrev pub FiresOnce : Type 0
FiresOnce = (p : Plan) (id n t fired : ℕ) (h : List Entry) (f : Firing) → IsHistory p h → IsDue p h (op.SweepOk n t fired) → firing_of p id h ≡ Some f → firing_in p id h (op.SweepOk n t fired) ≡ None

abbrev pub FiringNeverChanges : Type 0
FiringNeverChanges = (p : Plan) (id : ℕ) (h more : List Entry) (f : Firing) → IsHistory p (more ++ h) → firing_of p id h ≡ Some f → firing_of p id (more ++ h) ≡ Some f

-- Two set watches of one session differ in their path or their kind.
abbrev pub SetWatchesDiffer : Type 0
SetWatchesDiffer = (p : Plan) (i j : ℕ) (h : List Entry) (v w : Watch) → IsHistory p h → set_watch p i h ≡ Some v → set_watch p j h ≡ Some w → v.session ≡ w.session → same_path v.path w.path ≡ true → same_kind v.kind w.kind ≡ true → i ≡ j

-- No swept push beyond its first number changed what a set watch takes.
pub record SawNoChange (p : Plan) (id : ℕ) (h : List Entry) (w : Watch) : Type 0 where
  pub number : w.id ≡ id
  pub first : ℕ
  pub registered : first_of p id h ≡ Some first
  pub none_since : (t : ℕ) → is_swept t h ≡ true → first < t → taken_of p w t h ≡ None

abbrev pub SetWatchSawNoChange : Type 0
SetWatchSawNoChange = (p : Plan) (id : ℕ) (h : List Entry) (w : Watch) → IsHistory p h → set_watch p id h ≡ Some w → SawNoChange p id h w

-- A watch fired at the first swept push beyond its first number that changed what it takes, with the
-- first such change.
pub record FiredAtItsFirst (p : Plan) (id : ℕ) (h : List Entry) (f : Firing) : Type 0 where
  pub number : f.watch.id ≡ id
  pub swept : is_swept f.tx h ≡ true
  pub shows : taken_of p f.watch f.tx h ≡ Some f.change
  pub first : ℕ
  pub registered : first_of p id h ≡ Some first
  pub none_before : (t : ℕ) → is_swept t h ≡ true → first < t → t < f.tx → taken_of p f.watch t h ≡ None

abbrev pub FiredWatchFiredAtItsFirstChange : Type 0
FiredWatchFiredAtItsFirstChange = (p : Plan) (id : ℕ) (h : List Entry) (f : Firing) → IsHistory p h → firing_of p id h ≡ Some f → FiredAtItsFirst p id h f
