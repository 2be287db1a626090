-- Watch functions, where the services stand as a history says.
use Rattle.std.specs.Prelude.{◌≡◌, ◌≢◌, ℕ, ◌<◌, ◌^◌, ◌⊎◌, false, List, ◌∷◌, length, Some}
use Rattle.fk_print.specs.declared.entry.Entry.{Entry}
use Rattle.fk_print.specs.declared.op.Op.TheVariants as op
use Rattle.fk_queue.specs.Letters.{head_bytes}
use Rattle.fk_queue.specs.Meaning as post
use Rattle.fk_queue.specs.declared.lane.Lane.TheVariants as lane
use Rattle.fk_store.specs.Meaning as table
use Rattle.fk_user.specs.Meaning as user
use Rattle.fk_watch.specs.Meaning as watches
use Rattle.fk_watch.specs.Telling.{Meaning, after_step, is_ended, post_after_step, started, step_op, watches_after_step}
use Rattle.fk_watch.specs.TellingFit.{IsFit}
use Rattle.fk_wire.specs.NoteText.{IsNote, IsNoteText}
use Rattle.fk_wire.specs.declared.message.Note.{Note}
use Rattle.fk_stand.specs.Posts.{lane_after}
use Rattle.fk_stand.specs.Standing.{Standing}
use Rattle.fk_spec.specs.Plan.{Plan}
use Rattle.fk_spec.specs.Function.{Telling, actor, fault_op, function_op, place_of}
use Rattle.fk_spec.specs.Teller as teller
use Rattle.fk_spec.specs.Teller.{note_of}
use Rattle.fk_spec.specs.Next.{IsHistory}
use Rattle.fk_agree.specs.Heads.{note_as}
use Rattle.fk_agree.specs.Ends.{HasEnded}

-- A watch function is function n of a history: it makes its operations under that number, it hasn't ended, and it
-- stands where the history says.
pub record IsTeller (p : Plan) (n : ℕ) (h : List Entry) (m : Meaning) : Type 0 where
  pub inv : m.inv ≡ n
  pub going : is_ended m ≡ false
  pub stands : place_of p n h ≡ Telling m.number m.tx m.stage

-- the message of note w can be written
abbrev pub IsReadableNote : Plan → ℕ → List Entry → Type 0
IsReadableNote p w h = (x : teller.Note) → note_of p w h ≡ Some x → IsNote (note_as x)

-- A watch function that starts on the note that its lane's head is read as is the function of the start line.
abbrev pub TellerStarts : Type 0
TellerStarts =
    (p : Plan) (n w : ℕ) (e : Entry) (h : List Entry) (x : Note) → IsHistory p (e ∷ h) → e.op ≡ op.Teller n w → IsReadableNote p w h → IsNoteText (head_bytes (lane_after p lane.Watch h)) x
    → IsTeller p n (e ∷ h) (started n w x)

-- It makes the operation that the rules name.
abbrev pub TellerMakesItsOperation : Type 0
TellerMakesItsOperation =
    (p : Plan) (n : ℕ) (h : List Entry) (m : Meaning) (t : table.Meaning) (q : post.Meaning) (u : user.Meaning) (w : watches.Watches) → IsHistory p h → Standing p h t q u w → IsTeller p n h m
    → step_op q w m ≡ function_op p h n (place_of p n h)

-- Where the services fail, it makes the fault that they name.
abbrev pub TellerFails : Type 0
TellerFails = (p : Plan) (n : ℕ) (h : List Entry) (m : Meaning) (q : post.Meaning) (w : watches.Watches) → IsTeller p n h m → step_op (post.armed q) (watches.armed w) m ≡ fault_op n (place_of p n h)

-- After its operation it is the function still, or has ended where the history says so.
abbrev pub TellerGoesOn : Type 0
TellerGoesOn =
    (p : Plan) (n : ℕ) (e : Entry) (h : List Entry) (m : Meaning) (q : post.Meaning) (w : watches.Watches) → IsTeller p n h m → e.op ≡ step_op q w m
    → IsTeller p n (e ∷ h) (after_step q w m) ⊎ HasEnded p n (e ∷ h) (is_ended (after_step q w m))

-- The lines of others leave it.
abbrev pub OthersLeaveTellers : Type 0
OthersLeaveTellers = (p : Plan) (n : ℕ) (e : Entry) (h : List Entry) (m : Meaning) → IsHistory p (e ∷ h) → IsTeller p n h m → actor e.op ≢ Some n → IsTeller p n (e ∷ h) m

-- What its operation needs holds in a history shorter than 2^62, whether the services fail or not.
abbrev pub TellerIsFit : Type 0
TellerIsFit =
    (p : Plan) (n : ℕ) (h : List Entry) (m : Meaning) (t : table.Meaning) (q : post.Meaning) (u : user.Meaning) (w : watches.Watches) → IsHistory p h → length h < 2 ^ 62 → Standing p h t q u w → IsTeller p n h m
    → IsFit q m × IsFit (post.armed q) m

-- Its operation leaves the services as the longer history says.
abbrev pub TellerIsWritten : Type 0
TellerIsWritten =
    (p : Plan) (n : ℕ) (e : Entry) (h : List Entry) (m : Meaning) (t : table.Meaning) (q : post.Meaning) (u : user.Meaning) (w : watches.Watches) → IsHistory p (e ∷ h) → Standing p h t q u w → IsTeller p n h m → e.op ≡ step_op q w m
    → Standing p (e ∷ h) t (post_after_step q m) u (watches_after_step w m)

-- So does its fault, once the services that it didn't call are calmed.
abbrev pub TellerFaultIsWritten : Type 0
TellerFaultIsWritten =
    (p : Plan) (n : ℕ) (e : Entry) (h : List Entry) (m : Meaning) (t : table.Meaning) (q : post.Meaning) (u : user.Meaning) (w : watches.Watches) → IsHistory p (e ∷ h) → Standing p h t q u w → IsTeller p n h m → e.op ≡ step_op (post.armed q) (watches.armed w) m
    → Standing p (e ∷ h) t (post.calmed (post_after_step (post.armed q) m)) u (watches.calmed (watches_after_step (watches.armed w) m))
