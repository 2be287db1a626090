-- Tellings: fired watches are announced in the order of their pushes.
use Rattle.std.specs.Prelude.{◌≡◌, ℕ, ◌==◌, ◌<◌, ◌≤◌, ◌||◌, Bool, true, false, List, [], ◌∷◌, Some}
use Rattle.fk_print.specs.declared.entry.Entry.{Entry}
use Rattle.fk_print.specs.declared.op.Op.{Op}
use Rattle.fk_print.specs.declared.op.Op.TheVariants as op
use Rattle.fk_spec.specs.Plan.{Plan}
use Rattle.fk_spec.specs.Settling.{mark_of}
use Rattle.fk_spec.specs.Lanes.{notifies, removed_by}
use Rattle.fk_spec.specs.Teller.{Note, note_of}
use Rattle.fk_spec.specs.Watches.{Firing, firing_of}
use Rattle.fk_spec.specs.Next.{IsHistory}
use Rattle.fk_law_watch.specs.Noting.{fired_at, is_told, IsFull}

abbrev pub announces : ℕ → Op → Bool
announces id (op.Tell function session watch) = watch == id
announces id _ = false

-- whether a watch function told the client of watch `id`
abbrev pub is_announced : ℕ → List Entry → Bool
is_announced id [] = false
is_announced id (e ∷ h) = announces id e.op || is_announced id h

-- The push of a note that was removed from the watch lane is told.
abbrev pub RemovedNoteIsTold : Type 0
RemovedNoteIsTold = (p : Plan) (w : ℕ) (h : List Entry) (x : Note) → IsHistory p h → note_of p w h ≡ Some x → w ≤ removed_by notifies h → is_told x.tx h ≡ true

-- Each watch that a told push fired is announced.
abbrev pub ToldPushIsAnnounced : Type 0
ToldPushIsAnnounced = (p : Plan) (id : ℕ) (h : List Entry) (f : Firing) → IsHistory p h → firing_of p id h ≡ Some f → is_told f.tx h ≡ true → is_announced id h ≡ true

-- An announced watch has fired, at a push up to the mark.
abbrev pub AnnouncedHasFired : Type 0
AnnouncedHasFired = (p : Plan) (id : ℕ) (h : List Entry) → IsHistory p h → is_announced id h ≡ true → (f : Firing) × (firing_of p id h ≡ Some f) × (f.tx ≤ mark_of h)

-- a note of push t that stands before note w
pub record IsNotedBefore (p : Plan) (t w : ℕ) (h : List Entry) : Type 0 where
  pub place : ℕ
  pub note : Note
  pub noted : note_of p place h ≡ Some note
  pub of_it : note.tx ≡ t
  pub before : place < w

-- A push that fired something has a note before each note of a greater push.
abbrev pub NotesFirstStandInOrder : Type 0
NotesFirstStandInOrder = (p : Plan) (t w : ℕ) (h : List Entry) (x : Note) → IsHistory p h → note_of p w h ≡ Some x → t < x.tx → IsFull (fired_at p t h) → IsNotedBefore p t w h

-- Watches are announced in the order of the pushes that fired them.
abbrev pub AnnouncedInNumberOrder : Type 0
AnnouncedInNumberOrder = (p : Plan) (i j : ℕ) (h : List Entry) (f g : Firing) → IsHistory p h → firing_of p i h ≡ Some f → firing_of p j h ≡ Some g → f.tx < g.tx → is_announced j h ≡ true → is_announced i h ≡ true
