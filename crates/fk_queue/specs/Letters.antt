-- One lane: how many messages it was given, and those that wait, each under its number.
use Rattle.std.specs.Prelude.{◌≡◌, ℕ, zero, suc, ◌+◌, ◌-◌, ◌≤◌, List, [], ◌∷◌, ◌++◌, length, map, Option, Some, None}
use Rattle.fk_queue.specs.declared.letter.Letter.{Letter}

-- the count of its pushes, and the messages that aren't removed, the head first
pub record LaneState : Type 0 where
  pub given : ℕ
  pub waiting : List Letter

-- a lane that was given nothing
abbrev pub empty_lane : LaneState
empty_lane = record { given = 0; waiting = [] }

-- the lane after a push, which gives its message the next number
abbrev pub with_letter : List ℕ → LaneState → LaneState
with_letter bytes s = record { given = s.given + 1; waiting = s.waiting ++ record { number = s.given + 1; bytes = bytes } ∷ [] }

-- all but the first
abbrev pub rest : List Letter → List Letter
rest [] = []
rest (x ∷ xs) = xs

-- the lane after its head was removed
abbrev pub without_head : LaneState → LaneState
without_head s = record s { waiting = rest s.waiting }

-- the number of the first
abbrev pub first_number : List Letter → Option ℕ
first_number [] = None
first_number (x ∷ xs) = Some x.number

-- the number of the head; an empty lane has none
abbrev pub head_number : LaneState → Option ℕ
head_number s = first_number s.waiting

-- the message of the first
abbrev pub first_bytes : List Letter → List ℕ
first_bytes [] = []
first_bytes (x ∷ xs) = x.bytes

-- the message of the head; that of an empty lane counts as empty
abbrev pub head_bytes : LaneState → List ℕ
head_bytes s = first_bytes s.waiting

-- the numbers of the messages that wait, in their order
abbrev pub numbers_of : LaneState → List ℕ
numbers_of s = map (λ x. x.number) s.waiting

-- the so many numbers after n
abbrev pub numbers_after : ℕ → ℕ → List ℕ
numbers_after n zero = []
numbers_after n (suc count) = suc n ∷ numbers_after (suc n) count

-- The numbers of the messages that wait are consecutive, and the last one is the count of those given:
-- they are given - length + 1 up to given.
abbrev pub IsNumbered : LaneState → Type 0
IsNumbered s = (length s.waiting ≤ s.given) × (numbers_of s ≡ numbers_after (s.given - length s.waiting) (length s.waiting))
