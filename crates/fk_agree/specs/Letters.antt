-- The post after the lines of a history.
use Rattle.std.specs.Prelude.{◌≡◌, ℕ, ◌+◌, true, false, List, [], ◌∷◌, length, Some, None}
use Rattle.fk_print.specs.declared.entry.Entry.{Entry}
use Rattle.fk_print.specs.declared.op.Op.{Op}
use Rattle.fk_queue.specs.declared.lane.Lane.{Lane}
use Rattle.fk_queue.specs.declared.lane.Lane.TheVariants as lane
use Rattle.fk_queue.specs.Lanes.{is_lane, same_lane}
use Rattle.fk_queue.specs.Letters.{IsNumbered, LaneState, head_number}
use Rattle.fk_queue.specs.Meaning.{new_post, popped, pushed}
use Rattle.fk_stand.specs.Posts.{lane_after, letter_in, post_after, removes}
use Rattle.fk_spec.specs.Plan.{Plan}
use Rattle.fk_spec.specs.Start.{pushes_of, sends_of}
use Rattle.fk_spec.specs.Lanes.{follows_session, leader_head, leads, notes_of, notifies, removed_by, session_head, watch_head}
use Rattle.fk_spec.specs.Next.{IsHistory}

-- A new post is what the rules say of no history.
abbrev pub NewPostStands : Type 0
NewPostStands = (p : Plan) → new_post (length p.asks) ≡ post_after p [] 0

-- a line leaves a lane: it puts no message there and removes none
pub record LeavesLane (p : Plan) (l : Lane) (h : List Entry) (o : Op) : Type 0 where
  pub none : letter_in p l h o ≡ None
  pub kept : removes l h o ≡ false

-- Where a line leaves each lane, the post stays.
abbrev pub PostStays : Type 0
PostStays = (p : Plan) (faults : ℕ) (e : Entry) (h : List Entry) → ((l : Lane) → LeavesLane p l h e.op) → post_after p (e ∷ h) faults ≡ post_after p h faults

-- A line that puts a message into one of the post's lanes, and leaves the others, is a push.
abbrev pub LetterIsPushed : Type 0
LetterIsPushed =
    (p : Plan) (faults : ℕ) (l : Lane) (bytes : List ℕ) (e : Entry) (h : List Entry) → is_lane (length p.asks) l ≡ true → letter_in p l h e.op ≡ Some bytes
    → ((q : Lane) → same_lane q l ≡ false → LeavesLane p q h e.op) → pushed l bytes (post_after p h faults) ≡ post_after p (e ∷ h) faults

-- A line that removes the head of one of the post's lanes, and leaves the others, is an acknowledgement.
abbrev pub HeadIsPopped : Type 0
HeadIsPopped =
    (p : Plan) (faults : ℕ) (l : Lane) (e : Entry) (h : List Entry) → is_lane (length p.asks) l ≡ true → letter_in p l h e.op ≡ None → removes l h e.op ≡ true
    → ((q : Lane) → same_lane q l ≡ false → LeavesLane p q h e.op) → popped l (post_after p h faults) ≡ post_after p (e ∷ h) faults

-- A lane was given so many messages and lost so many: those that wait are the others, numbered up to the count.
pub record IsCounted (s : LaneState) (given removed : ℕ) : Type 0 where
  pub count : s.given ≡ given
  pub left : length s.waiting + removed ≡ given
  pub numbered : IsNumbered s

-- In every history each lane of functions is counted as the rules count it, and its head is the rules' head.
abbrev pub LanesAreCounted : Type 0
LanesAreCounted =
    (p : Plan) (h : List Entry) → IsHistory p h
    → ((c : ℕ) → IsCounted (lane_after p (lane.Session c) h) (sends_of c h) (removed_by (follows_session c) h))
    × IsCounted (lane_after p lane.Leader h) (pushes_of h) (removed_by leads h)
    × IsCounted (lane_after p lane.Watch h) (notes_of h) (removed_by notifies h)

abbrev pub HeadsAreTheRules : Type 0
HeadsAreTheRules =
    (p : Plan) (h : List Entry) → IsHistory p h
    → ((c : ℕ) → head_number (lane_after p (lane.Session c) h) ≡ session_head c h)
    × (head_number (lane_after p lane.Leader h) ≡ leader_head h)
    × (head_number (lane_after p lane.Watch h) ≡ watch_head h)
