-- What a post means: the state of each lane; whether the next call fails, and how often one failed.
use Rattle.std.specs.Prelude.{ℕ, zero, suc, ◌+◌, Bool, true, false, if◌then◌else◌, List, [], ◌∷◌, length}
use Rattle.fk_base.specs.Faults.{one_more}
use Rattle.fk_region.specs.Kept.{blocks_of}
use Rattle.fk_queue.specs.declared.letter.Letter.{Letter}
use Rattle.fk_queue.specs.declared.lane.Lane.{Lane}
use Rattle.fk_queue.specs.declared.lane.Lane.TheVariants as lane
use Rattle.fk_queue.specs.Lanes.{is_lane, same_lane}
use Rattle.fk_queue.specs.Letters.{LaneState, empty_lane, with_letter, without_head}

-- Sessions are numbered from 1 to the count of sessions; the lanes of no session are empty.
pub record Meaning : Type 0 where
  pub sessions : ℕ
  pub lanes : Lane → LaneState
  pub armed : Bool
  pub faults : ℕ

-- whether the lane is one of an existing session, or one that every post has
abbrev pub has_lane : Meaning → Lane → Bool
has_lane m l = is_lane m.sessions l

-- A new post has an empty lane for the leader and for watches, and two for each session.
abbrev pub new_post : ℕ → Meaning
new_post sessions = record { sessions = sessions; lanes = λ l. empty_lane; armed = false; faults = 0 }

-- the lanes, with this in one of them
abbrev pub with_lane : {X : Type 0} → Lane → X → (Lane → X) → Lane → X
with_lane l s lanes q = if same_lane q l then s else lanes q

-- the message stands at the end of the lane
abbrev pub pushed : Lane → List ℕ → Meaning → Meaning
pushed l bytes m = record m { lanes = with_lane l (with_letter bytes (m.lanes l)) m.lanes }

-- the lane lost its head
abbrev pub popped : Lane → Meaning → Meaning
popped l m = record m { lanes = with_lane l (without_head (m.lanes l)) m.lanes }

-- the next call fails
abbrev pub armed : Meaning → Meaning
armed m = record m { armed = true }

-- the next call doesn't fail
abbrev pub calmed : Meaning → Meaning
calmed m = record m { armed = false }

-- A call that may fail does so exactly where the post is armed. It then raises the count of faults, calms
-- the post and changes nothing else.
abbrev pub called : Meaning → Meaning
called m = record m { armed = false; faults = if m.armed then one_more m.faults else m.faults }

-- the post after a push that doesn't want memory
abbrev pub posted : Lane → List ℕ → Meaning → Meaning
posted l bytes m = if m.armed then called m else pushed l bytes m

-- the sum of f 1 up to f n
abbrev pub sum_to : ℕ → (ℕ → ℕ) → ℕ
sum_to zero f = 0
sum_to (suc n) f = sum_to n f + f (suc n)

-- how many messages wait in a lane
abbrev pub length_of : LaneState → ℕ
length_of s = length s.waiting

-- the sum of f over the lanes of so many sessions and those that every post has
abbrev pub over_lanes : ℕ → (Lane → ℕ) → ℕ
over_lanes sessions f = f lane.Leader + f lane.Watch + sum_to sessions (λ s. f (lane.Session s) + f (lane.Inbox s))

-- how many messages wait in these lanes
abbrev pub waiting_among : ℕ → (Lane → LaneState) → ℕ
waiting_among sessions lanes = over_lanes sessions (λ l. length_of (lanes l))

-- how many messages wait in all lanes
abbrev pub waiting_in : Meaning → ℕ
waiting_in m = waiting_among m.sessions m.lanes

-- how many blocks of 256 bytes the messages take, each by itself
abbrev pub blocks_for : List Letter → ℕ
blocks_for [] = 0
blocks_for (x ∷ xs) = blocks_of (length x.bytes) + blocks_for xs

-- how many blocks the messages in these lanes take
abbrev pub blocks_among : ℕ → (Lane → LaneState) → ℕ
blocks_among sessions lanes = over_lanes sessions (λ l. blocks_for (lanes l).waiting)

-- how many blocks the messages in all lanes take
abbrev pub blocks_in : Meaning → ℕ
blocks_in m = blocks_among m.sessions m.lanes
