-- What the answers of a post's calls say of the post before the call, and what it means after it.
use Rattle.std.specs.Prelude.{◌≡◌, ℕ, ◌+◌, ◌==◌, Bool, true, false, if◌then◌else◌, List, Option, Some, None}
use Rattle.fk_queue.specs.declared.answer.Ack.{Ack}
use Rattle.fk_queue.specs.declared.answer.Ack.TheVariants as ack
use Rattle.fk_queue.specs.declared.answer.Posted.{Posted}
use Rattle.fk_queue.specs.declared.answer.Posted.TheVariants as posted
use Rattle.fk_queue.specs.declared.lane.Lane.{Lane}
use Rattle.fk_queue.specs.Letters.{head_number}
use Rattle.fk_queue.specs.Meaning.{Meaning, called, popped, pushed}

-- At is the lane's count after the push; Failed comes exactly where the post is armed.
abbrev pub IsPosted : Meaning → Lane → Posted → Type 0
IsPosted m l (posted.At n) = (m.armed ≡ false) × (n ≡ (m.lanes l).given + 1)
IsPosted m l posted.Failed = m.armed ≡ true
IsPosted m l posted.NoMemory = m.armed ≡ false

-- The post after a push: at At the message stands at the end of its lane; else it doesn't.
abbrev pub after_push : Meaning → Lane → List ℕ → Posted → Meaning
after_push m l bytes (posted.At n) = pushed l bytes m
after_push m l bytes posted.Failed = called m
after_push m l bytes posted.NoMemory = m

-- whether there is a head of this number
abbrev pub is_number : ℕ → Option ℕ → Bool
is_number n None = false
is_number n (Some k) = k == n

-- Failed exactly where the post is armed, else Acked exactly where the lane's head has this number.
abbrev pub ack_of : Meaning → Lane → ℕ → Ack
ack_of m l n = if m.armed then ack.Failed else if is_number n (head_number (m.lanes l)) then ack.Acked else ack.NotHead

-- The post after an acknowledgement: at Acked the lane lost its head; else it didn't.
abbrev pub after_ack : Meaning → Lane → Ack → Meaning
after_ack m l ack.Acked = popped l m
after_ack m l ack.NotHead = m
after_ack m l ack.Failed = called m
