-- What a push fired, and the notes and the tellings of it.
use Rattle.std.specs.Prelude.{◌≡◌, ℕ, ◌==◌, ◌≤◌, ◌||◌, ◌⊎◌, Bool, true, false, if◌then◌else◌, List, [], ◌∷◌, Some}
use Rattle.fk_print.specs.declared.entry.Entry.{Entry}
use Rattle.fk_print.specs.declared.op.Op.{Op}
use Rattle.fk_print.specs.declared.op.Op.TheVariants as op
use Rattle.fk_spec.specs.Plan.{Plan}
use Rattle.fk_spec.specs.Settling.{done_of, mark_of}
use Rattle.fk_spec.specs.Leader as leader
use Rattle.fk_spec.specs.Teller.{Note, note_of}
use Rattle.fk_spec.specs.Watches.{Firing, fired_by, fired_watches, firing_of, firing_with, firings, set_watches, swept_by, touches_of_push}
use Rattle.fk_spec.specs.Function.{Leading, place_of}
use Rattle.fk_spec.specs.Next.{IsHistory}

abbrev pub fired_at_in : Plan → ℕ → List Entry → Op → List Firing → List Firing
fired_at_in p t h (op.SweepOk function tx fired) fs = if tx == t then firings tx (touches_of_push p tx h) (set_watches p h) else fs
fired_at_in p t h _ fs = fs

-- all that push t fired, in rising number
abbrev pub fired_at : Plan → ℕ → List Entry → List Firing
fired_at p t [] = []
fired_at p t (e ∷ h) = fired_at_in p t h e.op (fired_at p t h)

abbrev pub tells_all : ℕ → Op → Bool
tells_all t (op.Told function tx) = tx == t
tells_all t _ = false

-- whether the watches that push t fired are told
abbrev pub is_told : ℕ → List Entry → Bool
is_told t [] = false
is_told t (e ∷ h) = tells_all t e.op || is_told t h

abbrev pub notes : ℕ → Op → Bool
notes t (op.Notify function tx note) = tx == t
notes t _ = false

-- whether there is a note of push t
abbrev pub is_noted : ℕ → List Entry → Bool
is_noted t [] = false
is_noted t (e ∷ h) = notes t e.op || is_noted t h

abbrev pub untold : Bool → List Firing → List Firing
untold told fs = if told then [] else fs

-- Of what a push fired, all is listed until it is told.
abbrev pub FiredIsListedUntilTold : Type 0
FiredIsListedUntilTold = (p : Plan) (t : ℕ) (h : List Entry) → IsHistory p h → fired_by t (fired_watches p h) ≡ untold (is_told t h) (fired_at p t h)

-- A push fired a watch where the watch fired at it.
abbrev pub FiredAtItsPush : Type 0
FiredAtItsPush = (p : Plan) (id : ℕ) (h : List Entry) (f : Firing) → IsHistory p h → firing_of p id h ≡ Some f → firing_with id (fired_at p f.tx h) ≡ Some f

abbrev pub FiredOfAPush : Type 0
FiredOfAPush = (p : Plan) (id t : ℕ) (h : List Entry) (f : Firing) → IsHistory p h → firing_with id (fired_at p t h) ≡ Some f → (firing_of p id h ≡ Some f) × (f.tx ≡ t)

abbrev pub IsFull : List Firing → Type 0
IsFull [] = ⊥
IsFull (f ∷ fs) = Unit {0}

-- A leader has in hand all that its push fired, or nothing where it was told already.
abbrev pub HasInHand : List Firing → List Firing → Bool → Type 0
HasInHand hand all told = (hand ≡ all) ⊎ ((hand ≡ []) × (told ≡ true))

-- Before its notification it has something in hand; after it what the push fired is noted.
abbrev pub HandsSo : List Firing → List Firing → Bool → Bool → leader.Stage → Type 0
HandsSo hand all told noted (leader.Put path others) = HasInHand hand all told
HandsSo hand all told noted leader.Publish = HasInHand hand all told
HandsSo hand all told noted leader.Notify = IsFull hand × HasInHand hand all told
HandsSo hand all told noted leader.Reply = (all ≡ []) ⊎ (noted ≡ true)
HandsSo hand all told noted leader.Done = (all ≡ []) ⊎ (noted ≡ true)
HandsSo hand all told noted _ = Unit {0}

abbrev pub Hands : Plan → ℕ → List Entry → ℕ → leader.Stage → Type 0
Hands p n h t s = HandsSo (swept_by p n h).fired (fired_at p t h) (is_told t h) (is_noted t h) s

abbrev pub FiredListInHand : Type 0
FiredListInHand = (p : Plan) (n t : ℕ) (s : leader.Stage) (h : List Entry) → IsHistory p h → place_of p n h ≡ Leading t s → Hands p n h t s

-- A note is of a push that fired something, tells all of it, and is at most the mark.
pub record TellsWhatFired (p : Plan) (h : List Entry) (x : Note) : Type 0 where
  pub all : x.fired ≡ fired_at p x.tx h
  pub some : IsFull x.fired
  pub published : x.tx ≤ mark_of h
  pub noted : is_noted x.tx h ≡ true

abbrev pub NoteTellsWhatItsPushFired : Type 0
NoteTellsWhatItsPushFired = (p : Plan) (w : ℕ) (h : List Entry) (x : Note) → IsHistory p h → note_of p w h ≡ Some x → TellsWhatFired p h x

-- A push that fired something is noted once it is done.
abbrev pub FiredPushIsNotedBeforeDone : Type 0
FiredPushIsNotedBeforeDone = (p : Plan) (t : ℕ) (h : List Entry) → IsHistory p h → t ≤ done_of h → (fired_at p t h ≡ []) ⊎ (is_noted t h ≡ true)
