-- Leaders, where the services stand as a history says.
use Rattle.std.specs.Prelude.{◌≡◌, ◌≢◌, ℕ, ◌<◌, ◌^◌, ◌⊎◌, false, List, [], ◌∷◌, length, map, Some}
use Rattle.fk_print.specs.declared.entry.Entry.{Entry}
use Rattle.fk_print.specs.declared.line.Line.{Line}
use Rattle.fk_print.specs.declared.line.Line.TheVariants as line
use Rattle.fk_print.specs.declared.op.Op.{Op}
use Rattle.fk_print.specs.declared.op.Op.TheVariants as op
use Rattle.fk_queue.specs.Letters.{head_bytes}
use Rattle.fk_queue.specs.Meaning as post
use Rattle.fk_queue.specs.declared.lane.Lane.TheVariants as lane
use Rattle.fk_store.specs.Meaning as table
use Rattle.fk_user.specs.Meaning as user
use Rattle.fk_watch.specs.Meaning as watches
use Rattle.fk_watch.specs.Notes.{fired_as}
use Rattle.fk_wire.specs.PushedText.{IsPushed, IsPushedText}
use Rattle.fk_wire.specs.declared.message.Pushed.{Pushed}
use Rattle.fk_lead.specs.Fit.{IsFit}
use Rattle.fk_lead.specs.Meaning.{Meaning, Swept, applied_of, is_ended, started}
use Rattle.fk_lead.specs.Next.{after_step}
use Rattle.fk_lead.specs.Operation.{step_op}
use Rattle.fk_lead.specs.Services.{post_after_step, table_after_step, user_after_step, watches_after_step}
use Rattle.fk_lead.specs.Sweeping.{IsGiven}
use Rattle.fk_stand.specs.Messages.{push_message_of}
use Rattle.fk_stand.specs.Posts.{lane_after}
use Rattle.fk_stand.specs.Standing.{Standing}
use Rattle.fk_spec.specs.Plan.{Plan}
use Rattle.fk_spec.specs.Function.{Leading, actor, fault_op, function_op, place_of}
use Rattle.fk_spec.specs.Watches as rules
use Rattle.fk_spec.specs.Watches.{swept_by}
use Rattle.fk_spec.specs.Next.{IsHistory, next_lines, printed_of}
use Rattle.fk_agree.specs.Ends.{HasEnded}

-- what a leader got from its sweep, as it keeps it
abbrev pub swept_as : rules.Swept → Swept
swept_as s = record { fired = map fired_as s.fired; epoch = s.epoch }

-- A leader is function n of a history: it makes its operations under that number, it hasn't ended, and it stands
-- where the history says; its message is that of its push, and what it got from its sweep is what the rules read.
pub record IsLeader (p : Plan) (n : ℕ) (h : List Entry) (m : Meaning) : Type 0 where
  pub inv : m.inv ≡ n
  pub going : is_ended m ≡ false
  pub stands : place_of p n h ≡ Leading m.tx m.stage
  pub message : push_message_of p m.tx h ≡ Some m.message
  pub swept : m.swept ≡ swept_as (swept_by p n h)

-- the message of push t can be written
abbrev pub IsReadablePush : Plan → ℕ → List Entry → Type 0
IsReadablePush p t h = (x : Pushed) → push_message_of p t h ≡ Some x → IsPushed x

-- A leader that starts on the push that its lane's head is read as is the function of the start line.
abbrev pub LeaderStarts : Type 0
LeaderStarts =
    (p : Plan) (n t : ℕ) (e : Entry) (h : List Entry) (x : Pushed) → IsHistory p (e ∷ h) → e.op ≡ op.Leader n t → IsReadablePush p t h → IsPushedText (head_bytes (lane_after p lane.Leader h)) x
    → IsLeader p n (e ∷ h) (started n t x)

-- It makes the operation that the rules name.
abbrev pub LeaderMakesItsOperation : Type 0
LeaderMakesItsOperation =
    (p : Plan) (n : ℕ) (h : List Entry) (m : Meaning) (t : table.Meaning) (q : post.Meaning) (u : user.Meaning) (w : watches.Watches) (s : Swept) → IsHistory p h → Standing p h t q u w → IsLeader p n h m → IsGiven w m s
    → step_op t q w u s m ≡ function_op p h n (place_of p n h)

-- Where the services fail, it makes the fault that they name.
abbrev pub LeaderFails : Type 0
LeaderFails =
    (p : Plan) (n : ℕ) (h : List Entry) (m : Meaning) (t : table.Meaning) (q : post.Meaning) (u : user.Meaning) (w : watches.Watches) (s : Swept) → IsLeader p n h m
    → step_op (table.armed t) (post.armed q) (watches.armed w) (user.armed u) s m ≡ fault_op n (place_of p n h)

-- After its operation it is the function still, or has ended where the history says so.
abbrev pub LeaderGoesOn : Type 0
LeaderGoesOn =
    (p : Plan) (n : ℕ) (e : Entry) (h : List Entry) (m : Meaning) (t : table.Meaning) (q : post.Meaning) (u : user.Meaning) (w : watches.Watches) (s : Swept) → IsHistory p (e ∷ h) → Standing p h t q u w → IsLeader p n h m → IsGiven w m s → e.op ≡ step_op t q w u s m
    → IsLeader p n (e ∷ h) (after_step t q w u s m) ⊎ HasEnded p n (e ∷ h) (is_ended (after_step t q w u s m))

-- After its fault it has ended.
abbrev pub LeaderEndsAtItsFault : Type 0
LeaderEndsAtItsFault =
    (p : Plan) (n : ℕ) (e : Entry) (h : List Entry) (m : Meaning) (t : table.Meaning) (q : post.Meaning) (u : user.Meaning) (w : watches.Watches) (s : Swept) → IsLeader p n h m → e.op ≡ step_op (table.armed t) (post.armed q) (watches.armed w) (user.armed u) s m
    → HasEnded p n (e ∷ h) (is_ended (after_step (table.armed t) (post.armed q) (watches.armed w) (user.armed u) s m))

-- The lines of others leave it.
abbrev pub OthersLeaveLeaders : Type 0
OthersLeaveLeaders = (p : Plan) (n : ℕ) (e : Entry) (h : List Entry) (m : Meaning) → IsHistory p (e ∷ h) → IsLeader p n h m → actor e.op ≢ Some n → IsLeader p n (e ∷ h) m

-- What its operation needs holds in a history shorter than 2^62, whether the services fail or not.
abbrev pub LeaderIsFit : Type 0
LeaderIsFit =
    (p : Plan) (n : ℕ) (h : List Entry) (m : Meaning) (t : table.Meaning) (q : post.Meaning) (u : user.Meaning) (w : watches.Watches) → IsHistory p h → length h < 2 ^ 62 → Standing p h t q u w → IsLeader p n h m
    → IsFit t q m × IsFit (table.armed t) (post.armed q) m

-- Its operation leaves the services as the longer history says.
abbrev pub LeaderIsWritten : Type 0
LeaderIsWritten =
    (p : Plan) (n : ℕ) (e : Entry) (h : List Entry) (m : Meaning) (t : table.Meaning) (q : post.Meaning) (u : user.Meaning) (w : watches.Watches) (s : Swept) → IsHistory p (e ∷ h) → Standing p h t q u w → IsLeader p n h m → e.op ≡ step_op t q w u s m
    → Standing p (e ∷ h) (table_after_step t m) (post_after_step q m) (user_after_step u m) (watches_after_step w m)

-- So does its fault, once the services that it didn't call are calmed.
abbrev pub LeaderFaultIsWritten : Type 0
LeaderFaultIsWritten =
    (p : Plan) (n : ℕ) (e : Entry) (h : List Entry) (m : Meaning) (t : table.Meaning) (q : post.Meaning) (u : user.Meaning) (w : watches.Watches) (s : Swept) → IsHistory p (e ∷ h) → Standing p h t q u w → IsLeader p n h m → e.op ≡ step_op (table.armed t) (post.armed q) (watches.armed w) (user.armed u) s m
    → Standing p (e ∷ h) (table.calmed (table_after_step (table.armed t) m)) (post.calmed (post_after_step (post.armed q) m)) (user.calmed (user_after_step (user.armed u) m)) (watches.calmed (watches_after_step (watches.armed w) m))

-- what an operation of a leader prints: a publication its push, as the leader shows it
abbrev pub printed_at : Meaning → Op → List Line
printed_at m (op.PublishOk function tx) = line.Tx (printed_of (applied_of m)) ∷ []
printed_at m _ = []

-- Its operation prints the lines that the rules name.
abbrev pub LeaderPrintsItsLines : Type 0
LeaderPrintsItsLines =
    (p : Plan) (n : ℕ) (h : List Entry) (m : Meaning) (t : table.Meaning) (q : post.Meaning) (u : user.Meaning) (w : watches.Watches) (s : Swept) → IsHistory p h → Standing p h t q u w → IsLeader p n h m
    → next_lines p h (step_op t q w u s m) ≡ printed_at m (step_op t q w u s m)
