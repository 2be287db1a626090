-- The table of watches after the lines of a history.
use Rattle.std.specs.Prelude.{◌≡◌, ℕ, List, [], ◌∷◌, map, Some}
use Rattle.fk_print.specs.declared.entry.Entry.{Entry}
use Rattle.fk_print.specs.declared.op.Op.{Op}
use Rattle.fk_print.specs.declared.op.Op.TheVariants as op
use Rattle.fk_watch.specs.Answers.{AreFired, IsEpoch}
use Rattle.fk_watch.specs.Meaning.{new_watches}
use Rattle.fk_watch.specs.Notes.{fired_as}
use Rattle.fk_watch.specs.Registering.{registered}
use Rattle.fk_watch.specs.Sweeping.{swept_for, told_for}
use Rattle.fk_wire.specs.declared.fired.Fired.{Fired}
use Rattle.fk_stand.specs.Stores.{watch_as, watches_after}
use Rattle.fk_spec.specs.Plan.{Plan, asked}
use Rattle.fk_spec.specs.Watches.{Watch, epoch_of, fired_by, fired_watches, touches_of_push, watch_asked}
use Rattle.fk_spec.specs.Next.{IsHistory}

-- A new table of watches is what the rules say of no history.
abbrev pub NewWatchesStand : Type 0
NewWatchesStand = (p : Plan) → new_watches ≡ watches_after p [] 0

-- a line that neither registers a watch, nor sweeps, nor tells all that a push fired
abbrev pub LeavesWatches : Op → Type 0
LeavesWatches (op.WatchSet session command watch) = ⊥
LeavesWatches (op.SweepOk function tx fired) = ⊥
LeavesWatches (op.Told function tx) = ⊥
LeavesWatches _ = Unit {0}

-- It leaves the table as it is.
abbrev pub WatchesStay : Type 0
WatchesStay = (p : Plan) (faults : ℕ) (e : Entry) (h : List Entry) → LeavesWatches e.op → watches_after p (e ∷ h) faults ≡ watches_after p h faults

-- A registration sets the watch that its command asks for, under the number that its line tells.
abbrev pub RegistrationIsWritten : Type 0
RegistrationIsWritten =
    (p : Plan) (c command id faults : ℕ) (e : Entry) (h : List Entry) (w : Watch) → IsHistory p (e ∷ h) → e.op ≡ op.WatchSet c command id → watch_asked id c (asked p c command) ≡ Some w
    → registered (watch_as w) id (watches_after p h faults) ≡ watches_after p (e ∷ h) faults

-- A sweep fires the set watches that the touches of its push fit.
abbrev pub SweepIsWritten : Type 0
SweepIsWritten =
    (p : Plan) (n t fired faults : ℕ) (e : Entry) (h : List Entry) → IsHistory p (e ∷ h) → e.op ≡ op.SweepOk n t fired
    → swept_for t (touches_of_push p t h) (watches_after p h faults) ≡ watches_after p (e ∷ h) faults

-- What a push fired leaves once all of it is told.
abbrev pub ToldIsWritten : Type 0
ToldIsWritten =
    (p : Plan) (n t faults : ℕ) (e : Entry) (h : List Entry) → IsHistory p (e ∷ h) → e.op ≡ op.Told n t
    → told_for t (watches_after p h faults) ≡ watches_after p (e ∷ h) faults

-- What the table lists of a push are the watches that it fired and that aren't told, as the rules list them.
abbrev pub FiredAreTheRules : Type 0
FiredAreTheRules = (p : Plan) (t faults : ℕ) (h : List Entry) (fs : List Fired) → IsHistory p h → AreFired t (watches_after p h faults).fired fs → fs ≡ map fired_as (fired_by t (fired_watches p h))

-- So is its epoch that of the rules.
abbrev pub EpochIsTheRules : Type 0
EpochIsTheRules = (p : Plan) (faults : ℕ) (h : List Entry) (ids : List ℕ) → IsHistory p h → IsEpoch (watches_after p h faults).fired ids → ids ≡ epoch_of (fired_watches p h)
