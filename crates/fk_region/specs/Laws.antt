-- Laws of what a region means.
use Rattle.std.specs.Prelude.{◌≡◌, ℕ, true, false, List, Some, None}
use Rattle.fk_region.specs.declared.ticket.Ticket.{Ticket}
use Rattle.fk_region.specs.Kept.{bytes_under, same_ticket}
use Rattle.fk_region.specs.Meaning.{RegionMeaning, returned, stored}

-- Under a ticket that was new stand the bytes that were put in.
abbrev pub StoredIsFound : Type 0
StoredIsFound = (t : Ticket) (bytes : List ℕ) (m : RegionMeaning) → bytes_under t m.kept ≡ None → bytes_under t (stored t bytes m).kept ≡ Some bytes

-- Under another ticket stands what stood there.
abbrev pub OthersStay : Type 0
OthersStay = (t u : Ticket) (m : RegionMeaning) → same_ticket u t ≡ false
    → ((bytes : List ℕ) → bytes_under u (stored t bytes m).kept ≡ bytes_under u m.kept)
    × (bytes_under u (returned t m).kept ≡ bytes_under u m.kept)

-- The test for the same ticket is true exactly where the tickets are equal.
abbrev pub SameTicketIsEqual : Type 0
SameTicketIsEqual = ((t u : Ticket) → same_ticket t u ≡ true → t ≡ u) × ((t : Ticket) → same_ticket t t ≡ true)
