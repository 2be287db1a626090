-- One lane as it is kept: how many messages it was given, and a slip for each that waits; and what it means over what
-- a region keeps.
use Rattle.std.specs.Prelude.{◌≡◌, ℕ, ◌+◌, true, if◌then◌else◌, List, [], ◌∷◌, ◌++◌, map, None}
use Rattle.fk_region.specs.declared.ticket.Ticket.{Ticket}
use Rattle.fk_region.specs.Kept.{Kept, bytes_of, bytes_under, is_kept, same_ticket, with_kept, without_ticket}
use Rattle.fk_queue.specs.declared.letter.Letter.{Letter}
use Rattle.fk_queue.specs.declared.slip.Slip.{Slip}
use Rattle.fk_queue.specs.Letters.{LaneState}

-- the count of its pushes, and the slips of the messages that aren't removed, the head's first
pub record Slips : Type 0 where
  pub given : ℕ
  pub waiting : List Slip

-- a lane that was given nothing
abbrev pub no_slips : Slips
no_slips = record { given = 0; waiting = [] }

-- the lane after a push, whose message has this ticket
abbrev pub with_slip : Ticket → Slips → Slips
with_slip t s = record { given = s.given + 1; waiting = s.waiting ++ record { number = s.given + 1; ticket = t } ∷ [] }

-- all but the first
abbrev pub later : List Slip → List Slip
later [] = []
later (x ∷ xs) = xs

-- the lane after its head was removed
abbrev pub without_first : Slips → Slips
without_first s = record s { waiting = later s.waiting }

-- the message of a slip, where a region keeps this
abbrev pub letter_of : List Kept → Slip → Letter
letter_of ks x = record { number = x.number; bytes = bytes_of x.ticket ks }

-- what a lane means, where a region keeps this
abbrev pub lane_of : List Kept → Slips → LaneState
lane_of ks s = record { given = s.given; waiting = map (letter_of ks) s.waiting }

-- the tickets of the messages that wait, in their order
abbrev pub tickets_in : Slips → List Ticket
tickets_in s = map (λ x. x.ticket) s.waiting

-- how often a ticket stands in a list
abbrev pub how_often : Ticket → List Ticket → ℕ
how_often t [] = 0
how_often t (x ∷ xs) = (if same_ticket t x then 1 else 0) + how_often t xs

-- The ticket of the first is one of a region that keeps this; there may be no first.
abbrev pub IsFirstKept : List Kept → List Slip → Type 0
IsFirstKept ks [] = Unit {0}
IsFirstKept ks (x ∷ xs) = is_kept x.ticket ks ≡ true

-- Nothing is kept under the ticket of the first; there may be no first.
abbrev pub IsFirstGone : List Kept → List Slip → Type 0
IsFirstGone ks [] = Unit {0}
IsFirstGone ks (x ∷ xs) = bytes_under x.ticket ks ≡ None

-- what a region keeps after the first's ticket was given back
abbrev pub without_ticket_of : List Slip → List Kept → List Kept
without_ticket_of [] ks = ks
without_ticket_of (x ∷ xs) ks = without_ticket x.ticket ks

-- A message was pushed: the region keeps it under a ticket under which it kept nothing before, and the lane has a slip
-- with that ticket at its end.
pub record Takes (bytes : List ℕ) (s after : Slips) (ks kept : List Kept) : Type 0 where
  pub ticket : Ticket
  pub fresh : bytes_under ticket ks ≡ None
  pub slip : after ≡ with_slip ticket s
  pub put : kept ≡ with_kept (record { ticket = ticket; bytes = bytes }) ks

-- The head was removed, and its ticket was given back.
pub record GivesBack (s after : Slips) (ks kept : List Kept) : Type 0 where
  pub slip : after ≡ without_first s
  pub given : kept ≡ without_ticket_of s.waiting ks
  pub gone : IsFirstGone kept s.waiting
