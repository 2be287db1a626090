-- Laws of what a post means.
use Rattle.std.specs.Prelude.{◌≡◌, ℕ, ◌+◌, true, false, List, [], length, is_some}
use Rattle.fk_region.specs.Kept.{blocks_of}
use Rattle.fk_queue.specs.declared.answer.Ack.{Ack}
use Rattle.fk_queue.specs.declared.answer.Posted.{Posted}
use Rattle.fk_queue.specs.declared.lane.Lane.{Lane}
use Rattle.fk_queue.specs.Answers.{after_ack, after_push}
use Rattle.fk_queue.specs.Lanes.{same_lane}
use Rattle.fk_queue.specs.Letters.{head_bytes, head_number}
use Rattle.fk_queue.specs.Meaning.{Meaning, blocks_in, has_lane, popped, pushed, waiting_in}

-- The test for the same lane is true exactly where the lanes are equal.
abbrev pub SameLaneIsEqual : Type 0
SameLaneIsEqual = ((p q : Lane) → same_lane p q ≡ true → p ≡ q) × ((l : Lane) → same_lane l l ≡ true)

-- Whatever a push or an acknowledgement answers, the other lanes stay as they are.
abbrev pub OthersStay : Type 0
OthersStay = (m : Meaning) (l q : Lane) → same_lane q l ≡ false
    → ((bytes : List ℕ) (r : Posted) → (after_push m l bytes r).lanes q ≡ m.lanes q)
    × ((r : Ack) → (after_ack m l r).lanes q ≡ m.lanes q)

-- Whatever a push or an acknowledgement answers, the sessions stay as they are.
abbrev pub SessionsStay : Type 0
SessionsStay = (m : Meaning) (l : Lane)
    → ((bytes : List ℕ) (r : Posted) → (after_push m l bytes r).sessions ≡ m.sessions)
    × ((r : Ack) → (after_ack m l r).sessions ≡ m.sessions)

-- A push makes one message more wait.
abbrev pub PushAddsOne : Type 0
PushAddsOne = (m : Meaning) (l : Lane) (bytes : List ℕ) → has_lane m l ≡ true → waiting_in (pushed l bytes m) ≡ waiting_in m + 1

-- Where a lane loses its head, one message less waits.
abbrev pub AckTakesOne : Type 0
AckTakesOne = (m : Meaning) (l : Lane) → has_lane m l ≡ true → is_some (head_number (m.lanes l)) ≡ true → waiting_in m ≡ waiting_in (popped l m) + 1

-- No message waits exactly where each lane is empty.
abbrev pub NoneWaitsWhereEmpty : Type 0
NoneWaitsWhereEmpty = (m : Meaning)
    → ((l : Lane) → has_lane m l ≡ true → waiting_in m ≡ 0 → (m.lanes l).waiting ≡ [])
    × (((l : Lane) → has_lane m l ≡ true → (m.lanes l).waiting ≡ []) → waiting_in m ≡ 0)

-- A push takes the blocks of its message.
abbrev pub PushAddsBlocks : Type 0
PushAddsBlocks = (m : Meaning) (l : Lane) (bytes : List ℕ) → has_lane m l ≡ true → blocks_in (pushed l bytes m) ≡ blocks_in m + blocks_of (length bytes)

-- Where a lane loses its head, the blocks of its message are free again.
abbrev pub AckFreesBlocks : Type 0
AckFreesBlocks = (m : Meaning) (l : Lane) → has_lane m l ≡ true → blocks_in m ≡ blocks_in (popped l m) + blocks_of (length (head_bytes (m.lanes l)))

-- Where no message waits, none takes a block.
abbrev pub NoBlocksWhereNoneWaits : Type 0
NoBlocksWhereNoneWaits = (m : Meaning) → waiting_in m ≡ 0 → blocks_in m ≡ 0
