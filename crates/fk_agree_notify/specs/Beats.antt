-- Heartbeats, where the services stand as a history says.
use Rattle.std.specs.Prelude.{◌≡◌, ◌≢◌, ℕ, ◌<◌, ◌^◌, ◌⊎◌, false, List, ◌∷◌, length, Some}
use Rattle.fk_print.specs.declared.entry.Entry.{Entry}
use Rattle.fk_print.specs.declared.op.Op.TheVariants as op
use Rattle.fk_queue.specs.Meaning as post
use Rattle.fk_store.specs.Meaning as table
use Rattle.fk_user.specs.Meaning as user
use Rattle.fk_watch.specs.Meaning as watches
use Rattle.fk_watch.specs.Beating.{Meaning, after_step, is_ended, post_after_step, started, step_op, table_after_step}
use Rattle.fk_watch.specs.BeatingFit.{IsFit}
use Rattle.fk_stand.specs.Standing.{Standing}
use Rattle.fk_spec.specs.Plan.{Plan}
use Rattle.fk_spec.specs.Start.{clock_of}
use Rattle.fk_spec.specs.Function.{Beating, actor, fault_op, function_op, place_of}
use Rattle.fk_spec.specs.Next.{IsHistory}
use Rattle.fk_agree.specs.Ends.{HasEnded}

-- A heartbeat is function n of a history: it makes its operations under that number, it hasn't ended, and it stands
-- where the history says.
pub record IsBeat (p : Plan) (n : ℕ) (h : List Entry) (m : Meaning) : Type 0 where
  pub inv : m.inv ≡ n
  pub going : is_ended m ≡ false
  pub stands : place_of p n h ≡ Beating m.session m.stage

-- A heartbeat that starts on a session is the function of the start line.
abbrev pub BeatStarts : Type 0
BeatStarts = (p : Plan) (n c : ℕ) (e : Entry) (h : List Entry) → e.op ≡ op.Beat n c → IsBeat p n (e ∷ h) (started n c)

-- It makes the operation that the rules name.
abbrev pub BeatMakesItsOperation : Type 0
BeatMakesItsOperation =
    (p : Plan) (n : ℕ) (h : List Entry) (m : Meaning) (t : table.Meaning) (q : post.Meaning) (u : user.Meaning) (w : watches.Watches) → IsHistory p h → Standing p h t q u w → IsBeat p n h m
    → step_op t q (clock_of h) p.beat m ≡ function_op p h n (place_of p n h)

-- Where the services fail, it makes the fault that they name.
abbrev pub BeatFails : Type 0
BeatFails = (p : Plan) (n now beat : ℕ) (h : List Entry) (m : Meaning) (t : table.Meaning) (q : post.Meaning) → IsBeat p n h m → step_op (table.armed t) (post.armed q) now beat m ≡ fault_op n (place_of p n h)

-- After its operation it is the function still, or has ended where the history says so.
abbrev pub BeatGoesOn : Type 0
BeatGoesOn =
    (p : Plan) (n now beat : ℕ) (e : Entry) (h : List Entry) (m : Meaning) (t : table.Meaning) (q : post.Meaning) → IsBeat p n h m → e.op ≡ step_op t q now beat m
    → IsBeat p n (e ∷ h) (after_step t q now beat m) ⊎ HasEnded p n (e ∷ h) (is_ended (after_step t q now beat m))

-- The lines of others leave it.
abbrev pub OthersLeaveBeats : Type 0
OthersLeaveBeats = (p : Plan) (n : ℕ) (e : Entry) (h : List Entry) (m : Meaning) → IsHistory p (e ∷ h) → IsBeat p n h m → actor e.op ≢ Some n → IsBeat p n (e ∷ h) m

-- What its operation needs holds in a history shorter than 2^62, whether the services fail or not.
abbrev pub BeatIsFit : Type 0
BeatIsFit =
    (p : Plan) (n : ℕ) (h : List Entry) (m : Meaning) (t : table.Meaning) (q : post.Meaning) (u : user.Meaning) (w : watches.Watches) → IsHistory p h → length h < 2 ^ 62 → Standing p h t q u w → IsBeat p n h m
    → IsFit t q m × IsFit (table.armed t) (post.armed q) m

-- Its operation leaves the services as the longer history says.
abbrev pub BeatIsWritten : Type 0
BeatIsWritten =
    (p : Plan) (n : ℕ) (e : Entry) (h : List Entry) (m : Meaning) (t : table.Meaning) (q : post.Meaning) (u : user.Meaning) (w : watches.Watches) → IsHistory p (e ∷ h) → Standing p h t q u w → IsBeat p n h m → e.op ≡ step_op t q (clock_of h) p.beat m
    → Standing p (e ∷ h) (table_after_step t (clock_of h) m) (post_after_step q m) u w

-- So does its fault, once the services that it didn't call are calmed.
abbrev pub BeatFaultIsWritten : Type 0
BeatFaultIsWritten =
    (p : Plan) (n : ℕ) (e : Entry) (h : List Entry) (m : Meaning) (t : table.Meaning) (q : post.Meaning) (u : user.Meaning) (w : watches.Watches) → IsHistory p (e ∷ h) → Standing p h t q u w → IsBeat p n h m → e.op ≡ step_op (table.armed t) (post.armed q) (clock_of h) p.beat m
    → Standing p (e ∷ h) (table.calmed (table_after_step (table.armed t) (clock_of h) m)) (post.calmed (post_after_step (post.armed q) m)) u w
