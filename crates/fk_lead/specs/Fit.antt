-- What an operation of a leader needs.
use Rattle.std.specs.Prelude.{◌≡◌, ℕ, ◌≤◌, ◌<◌, ◌-◌, ◌^◌, true, false, is_some}
use Rattle.fk_queue.specs.Lanes.{is_session}
use Rattle.fk_queue.specs.Meaning as post
use Rattle.fk_queue.specs.declared.lane.Lane.TheVariants as lane
use Rattle.fk_store.specs.Meaning as table
use Rattle.fk_wire.specs.Fired.{AreLimitedFired}
use Rattle.fk_base.specs.Limits.{IsNumber}
use Rattle.fk_lead.specs.Meaning.{Meaning, is_ended}

-- the numbers of a leader and of its push that it sends are within the limits of messages
pub record IsLimited (m : Meaning) : Type 0 where
  pub tx : IsNumber m.tx
  pub k : IsNumber m.message.k
  pub fired : AreLimitedFired m.swept.fired

-- its push's session exists in both services, and the lanes that it pushes to may be given one more message
pub record HasSession (t : table.Meaning) (q : post.Meaning) (session : ℕ) : Type 0 where
  pub table : is_some (t.sessions session) ≡ true
  pub post : is_session q.sessions session ≡ true
  pub notes : (q.lanes lane.Watch).given < 2 ^ 63 - 1
  pub inbox : (q.lanes (lane.Inbox session)).given < 2 ^ 63 - 1

-- It has not ended, and its push's request is numbered from 1.
pub record IsFit (t : table.Meaning) (q : post.Meaning) (m : Meaning) : Type 0 where
  pub going : is_ended m ≡ false
  pub first : 1 ≤ m.message.k
  pub session : HasSession t q m.message.session
  pub limits : IsLimited m
