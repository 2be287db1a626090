-- The lanes of a post: which are the same, and which a post has.
use Rattle.std.specs.Prelude.{ℕ, ◌==◌, nat_le, Bool, true, false, ◌&&◌}
use Rattle.fk_queue.specs.declared.lane.Lane.{Lane}
use Rattle.fk_queue.specs.declared.lane.Lane.TheVariants as lane

-- whether two lanes are one
abbrev pub same_lane : Lane → Lane → Bool
same_lane lane.Leader lane.Leader = true
same_lane lane.Watch lane.Watch = true
same_lane (lane.Session s) (lane.Session t) = s == t
same_lane (lane.Inbox s) (lane.Inbox t) = s == t
same_lane p q = false

-- the sessions are numbered from 1
abbrev pub is_session : ℕ → ℕ → Bool
is_session count s = nat_le 1 s && nat_le s count

-- whether a post for so many sessions has this lane
abbrev pub is_lane : ℕ → Lane → Bool
is_lane count lane.Leader = true
is_lane count lane.Watch = true
is_lane count (lane.Session s) = is_session count s
is_lane count (lane.Inbox s) = is_session count s
