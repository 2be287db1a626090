-- Where the lanes stand in a list of what is kept of them: the leader's, that of watches, then two of each session.
use Rattle.std.specs.Prelude.{ℕ, ◌+◌, ◌*◌, if◌then◌else◌, List, slice_index_or}
use Rattle.fk_region.specs.Kept.{Kept}
use Rattle.fk_queue.specs.declared.lane.Lane.{Lane}
use Rattle.fk_queue.specs.declared.lane.Lane.TheVariants as lane
use Rattle.fk_queue.specs.Lanes.{is_lane}
use Rattle.fk_queue.specs.Letters.{LaneState}
use Rattle.fk_queue.specs.Slips.{Slips, lane_of, no_slips}

-- the place of a lane, from 0
abbrev pub place_of : Lane → ℕ
place_of lane.Leader = 0
place_of lane.Watch = 1
place_of (lane.Session s) = 2 * s
place_of (lane.Inbox s) = 2 * s + 1

-- what is kept of the lanes of so many sessions
abbrev pub slips_of : ℕ → List Slips → Lane → Slips
slips_of sessions queues l = if is_lane sessions l then slice_index_or queues (place_of l) no_slips else no_slips

-- the lanes of so many sessions, where a region keeps this
abbrev pub lanes_of : ℕ → List Slips → List Kept → Lane → LaneState
lanes_of sessions queues ks l = lane_of ks (slips_of sessions queues l)
