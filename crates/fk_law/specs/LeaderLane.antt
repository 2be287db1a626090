-- The leader lane: its pushes are finished one after another.
use Rattle.std.specs.Prelude.{◌≡◌, ℕ, ◌+◌, ◌==◌, ◌<◌, ◌≤◌, ◌||◌, ◌⊎◌, Bool, true, false, List, [], ◌∷◌, Some}
use Rattle.fk_print.specs.declared.entry.Entry.{Entry}
use Rattle.fk_print.specs.declared.op.Op.{Op}
use Rattle.fk_print.specs.declared.op.Op.TheVariants as op
use Rattle.fk_spec.specs.Plan.{Plan}
use Rattle.fk_spec.specs.Settling.{is_committed, done_of, swept_of, mark_of}
use Rattle.fk_spec.specs.Lanes.{leads, removed_by}
use Rattle.fk_spec.specs.Start.{Leads, task_of, pushes_of}
use Rattle.fk_spec.specs.Leader as leader
use Rattle.fk_spec.specs.Function.{Leading, place_of}
use Rattle.fk_spec.specs.Next.{IsHistory}
use Rattle.fk_law.specs.Due.{IsDue}
use Rattle.fk_law.specs.Losing.{IsDead}

abbrev pub publishes : ℕ → Op → Bool
publishes t (op.PublishOk function tx) = tx == t
publishes t _ = false

-- whether push t was published
abbrev pub is_published : ℕ → List Entry → Bool
is_published t [] = false
is_published t (e ∷ h) = publishes t e.op || is_published t h

abbrev pub sweeps : ℕ → Op → Bool
sweeps t (op.SweepOk function tx fired) = tx == t
sweeps t _ = false

-- whether push t was swept
abbrev pub is_swept : ℕ → List Entry → Bool
is_swept t [] = false
is_swept t (e ∷ h) = sweeps t e.op || is_swept t h

-- a push is finished where it is dead, or committed and published
abbrev pub IsFinished : ℕ → List Entry → Type 0
IsFinished t h = IsDead t h ⊎ ((is_committed t h ≡ true) × (is_published t h ≡ true))

-- Done are the removed pushes, or one more.
abbrev pub DoneIsRemovedOrOneMore : Type 0
DoneIsRemovedOrOneMore = (p : Plan) (h : List Entry) → IsHistory p h → (removed_by leads h ≤ done_of h) × (done_of h ≤ removed_by leads h + 1)

-- The mark is at most the sweep's number, and that at most one more than the removed pushes.
abbrev pub MarkBehindSweep : Type 0
MarkBehindSweep = (p : Plan) (h : List Entry) → IsHistory p h → (mark_of h ≤ swept_of h) × (swept_of h ≤ removed_by leads h + 1)

-- What is swept or published is committed.
abbrev pub SweptAreCommitted : Type 0
SweptAreCommitted = (p : Plan) (n t fired : ℕ) (h : List Entry) → IsHistory p h → IsDue p h (op.SweepOk n t fired) → is_committed t h ≡ true

abbrev pub PublishedAreSwept : Type 0
PublishedAreSwept = (p : Plan) (n t : ℕ) (h : List Entry) → IsHistory p h → IsDue p h (op.PublishOk n t) → (is_committed t h ≡ true) × (t ≤ swept_of h) × (mark_of h < t)

-- The published pushes are the committed ones up to the mark.
abbrev pub PublishedUpToTheMark : Type 0
PublishedUpToTheMark = (p : Plan) (t : ℕ) (h : List Entry) → IsHistory p h → is_committed t h ≡ true → t ≤ mark_of h → is_published t h ≡ true

-- Each push that was removed from the lane is dead, or committed and published.
abbrev pub PushesBelowTheHeadAreFinished : Type 0
PushesBelowTheHeadAreFinished = (p : Plan) (t : ℕ) (h : List Entry) → IsHistory p h → 1 ≤ t → t ≤ removed_by leads h → IsFinished t h

-- What commits is beyond all that is done, swept and published.
abbrev pub CommitsAreBeyondTheSweep : Type 0
CommitsAreBeyondTheSweep = (p : Plan) (n t : ℕ) (h : List Entry) → IsHistory p h → IsDue p h (op.CommitOk n t) → (done_of h < t) × (swept_of h < t) × (mark_of h < t)

-- A published push is committed, and at most the mark.
abbrev pub PublishedAreCommitted : Type 0
PublishedAreCommitted = (p : Plan) (t : ℕ) (h : List Entry) → IsHistory p h → is_published t h ≡ true → (is_committed t h ≡ true) × (t ≤ mark_of h)

-- A committed push up to the number that was swept last was swept.
abbrev pub SweptUpToTheSweep : Type 0
SweptUpToTheSweep = (p : Plan) (t : ℕ) (h : List Entry) → IsHistory p h → is_committed t h ≡ true → t ≤ swept_of h → is_swept t h ≡ true

-- What is done was pushed.
abbrev pub DoneWerePushed : Type 0
DoneWerePushed = (p : Plan) (h : List Entry) → IsHistory p h → done_of h ≤ pushes_of h

-- A leader was started for a push that is at most one beyond the removed ones.
abbrev pub LeaderWorksAtOrBelowTheHead : Type 0
LeaderWorksAtOrBelowTheHead = (p : Plan) (n t : ℕ) (h : List Entry) → IsHistory p h → task_of n h ≡ Some (Leads t) → (1 ≤ t) × (t ≤ removed_by leads h + 1) × (t ≤ pushes_of h)

-- Where a leader stands, by what it has found of its push: that it is dead, that it is committed, and
-- whether it is done, swept, published.
abbrev pub StandsSo : Type 0 → Bool → ℕ → ℕ → ℕ → ℕ → leader.Stage → Type 0
StandsSo D c done swept mark t leader.Commit = Unit {0}
StandsSo D c done swept mark t leader.Pending = D ⊎ (c ≡ true)
StandsSo D c done swept mark t leader.Drop = D ⊎ (t ≤ done)
StandsSo D c done swept mark t leader.Sweep = c ≡ true
StandsSo D c done swept mark t (leader.Put path others) = (c ≡ true) × (t ≤ swept)
StandsSo D c done swept mark t leader.Publish = (c ≡ true) × (t ≤ swept)
StandsSo D c done swept mark t leader.Notify = (c ≡ true) × (t ≤ mark)
StandsSo D c done swept mark t leader.Reply = (c ≡ true) × (t ≤ mark)
StandsSo D c done swept mark t leader.Done = (c ≡ true) × (t ≤ mark)
StandsSo D c done swept mark t leader.Ack = t ≤ done
StandsSo D c done swept mark t leader.Ended = Unit {0}

abbrev pub Stands : List Entry → ℕ → leader.Stage → Type 0
Stands h t s = StandsSo (IsDead t h) (is_committed t h) (done_of h) (swept_of h) (mark_of h) t s

-- A leader stands only where its push has come so far.
abbrev pub LeaderStandsWhereItMay : Type 0
LeaderStandsWhereItMay = (p : Plan) (n t : ℕ) (s : leader.Stage) (h : List Entry) → IsHistory p h → place_of p n h ≡ Leading t s → Stands h t s
