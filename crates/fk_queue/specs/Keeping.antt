-- How a region keeps the messages of lanes.
use Rattle.std.specs.Prelude.{◌≡◌, ℕ, if◌then◌else◌, List, [], ◌∷◌, map}
use Rattle.fk_region.specs.declared.ticket.Ticket.{Ticket}
use Rattle.fk_region.specs.Kept.{Kept, bytes_of, is_kept}
use Rattle.fk_region.specs.Meaning.{RegionMeaning}
use Rattle.fk_queue.specs.declared.answer.Posted.{Posted}
use Rattle.fk_queue.specs.declared.answer.Posted.TheVariants as posted
use Rattle.fk_queue.specs.declared.lane.Lane.{Lane}
use Rattle.fk_queue.specs.Letters.{LaneState}
use Rattle.fk_queue.specs.Meaning.{over_lanes}
use Rattle.fk_queue.specs.Slips.{how_often}

-- Each ticket of the region is that of one message, and each message's ticket is one of the region.
abbrev pub HasOneEach : ℕ → (Lane → List Ticket) → List Kept → Type 0
HasOneEach sessions tickets ks = (t : Ticket) → over_lanes sessions (λ l. how_often t (tickets l)) ≡ (if is_kept t ks then 1 else 0)

-- The messages of a lane are what the region keeps under their tickets.
abbrev pub AreKept : List Kept → List Ticket → LaneState → Type 0
AreKept ks tickets s = map (λ x. x.bytes) s.waiting ≡ map (λ t. bytes_of t ks) tickets

-- whether the first is this one
abbrev pub IsFirst : Ticket → List Ticket → Type 0
IsFirst t [] = ⊥
IsFirst t (x ∷ xs) = x ≡ t

-- A push that isn't done leaves the region as it was.
abbrev pub StaysUnlessAt : Posted → RegionMeaning → RegionMeaning → Type 0
StaysUnlessAt (posted.At n) m after = Unit {0}
StaysUnlessAt posted.Failed m after = after ≡ m
StaysUnlessAt posted.NoMemory m after = after ≡ m
