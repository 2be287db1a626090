-- The lanes: their messages are their sending lines, and only a head is removed.
use Rattle.std.specs.Prelude.{ℕ, ◌+◌, ◌==◌, nat_lt, Bool, true, false, if◌then◌else◌, List, [], ◌∷◌, ◌++◌, Option, Some, None}
use Rattle.fk_tree.specs.declared.request.Request.{Request}
use Rattle.fk_tree.specs.declared.request.Request.TheVariants as request
use Rattle.fk_print.specs.declared.entry.Entry.{Entry}
use Rattle.fk_print.specs.declared.op.Op.{Op}
use Rattle.fk_print.specs.declared.op.Op.TheVariants as op
use Rattle.fk_spec.specs.Plan.{Plan}
use Rattle.fk_spec.specs.Start.{Task, Follows, Leads, Notifies, when, task_of, sends_of, pushes_of, request_of}
use Rattle.fk_spec.specs.Settling.{Outcome, outcome_of}

abbrev pub follows_session : ℕ → Option Task → Bool
follows_session c (Some (Follows session k)) = session == c
follows_session c _ = false

abbrev pub leads : Option Task → Bool
leads (Some (Leads tx)) = true
leads _ = false

abbrev pub notifies : Option Task → Bool
notifies (Some (Notifies note)) = true
notifies _ = false

abbrev pub removed_in : (Option Task → Bool) → List Entry → Op → ℕ → ℕ
removed_in works h (op.AckOk function) n = if works (task_of function h) then n + 1 else n
removed_in works h _ n = n

-- how many messages the functions that work on a lane removed
abbrev pub removed_by : (Option Task → Bool) → List Entry → ℕ
removed_by works [] = 0
removed_by works (e ∷ h) = removed_in works h e.op (removed_by works h)

-- the number of the head: the first message that isn't removed
abbrev pub head_among : ℕ → ℕ → Option ℕ
head_among given removed = when (nat_lt removed given) (removed + 1)

abbrev pub session_head : ℕ → List Entry → Option ℕ
session_head c h = head_among (sends_of c h) (removed_by (follows_session c) h)

abbrev pub leader_head : List Entry → Option ℕ
leader_head h = head_among (pushes_of h) (removed_by leads h)

abbrev pub note_count : Op → ℕ → ℕ
note_count (op.Notify function tx note) n = n + 1
note_count _ n = n

-- how many notes the watch lane was given; they are numbered from 1 in the order of their lines
abbrev pub notes_of : List Entry → ℕ
notes_of [] = 0
notes_of (e ∷ h) = note_count e.op (notes_of h)

abbrev pub watch_head : List Entry → Option ℕ
watch_head h = head_among (notes_of h) (removed_by notifies h)

-- a message of a client's inbox
pub data Message : Type 0 where
  Done : (k tx : ℕ) → Message
  Evicted : (k tx : ℕ) → Message
  Kept : (k : ℕ) (outcome : Outcome) → Message
  Watch : (watch : ℕ) → Message
  Ping : (ping : ℕ) → Message

abbrev pub is_evict : Option Request → Bool
is_evict (Some (request.Close evict)) = evict
is_evict _ = false

abbrev pub kept_message : ℕ → Option Outcome → Option Message
kept_message k None = None
kept_message k (Some o) = Some (Kept k o)

-- A leader's reply tells that its push is done, or that the session was evicted; a follower's tells
-- the outcome that it kept.
abbrev pub reply_message : Bool → ℕ → Option Outcome → Option Task → Option Message
reply_message evict k o (Some (Leads tx)) = Some (if evict then Evicted k tx else Done k tx)
reply_message evict k o (Some (Follows session n)) = kept_message k o
reply_message evict k o _ = None

abbrev pub posted_in : Plan → ℕ → List Entry → Op → Option Message
posted_in p c h (op.Reply function session k) = if session == c then reply_message (is_evict (request_of p c k h)) k (outcome_of c k h) (task_of function h) else None
posted_in p c h (op.Tell function session watch) = when (session == c) (Watch watch)
posted_in p c h (op.Ping function session) = when (session == c) (Ping function)
posted_in p c h _ = None

abbrev pub takes : ℕ → Op → Bool
takes c (op.TakeDone session k tx) = session == c
takes c (op.TakeEvicted session k tx) = session == c
takes c (op.TakeRefused session k) = session == c
takes c (op.TakeLost session k) = session == c
takes c (op.TakeWatch session watch) = session == c
takes c (op.TakePing session ping) = session == c
takes c _ = false

abbrev pub with_posted : List Message → Option Message → List Message
with_posted ms None = ms
with_posted ms (Some m) = ms ++ m ∷ []

abbrev pub without_first : List Message → List Message
without_first [] = []
without_first (m ∷ ms) = ms

abbrev pub inbox_after : Bool → List Message → Option Message → List Message
inbox_after taken ms o = if taken then without_first ms else with_posted ms o

-- the messages of client c's inbox that aren't taken, the first first
abbrev pub inbox_of : Plan → ℕ → List Entry → List Message
inbox_of p c [] = []
inbox_of p c (e ∷ h) = inbox_after (takes c e.op) (inbox_of p c h) (posted_in p c h e.op)
