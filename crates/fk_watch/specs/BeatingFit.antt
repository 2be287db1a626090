-- What an operation of a heartbeat needs, and that what it sends can be read.
use Rattle.std.specs.Prelude.{◌≡◌, ℕ, ◌<◌, ◌-◌, ◌^◌, true, false, is_some, ⊤}
use Rattle.fk_queue.specs.Lanes.{is_session}
use Rattle.fk_queue.specs.Meaning as post
use Rattle.fk_queue.specs.declared.lane.Lane.TheVariants as lane
use Rattle.fk_store.specs.Meaning as table
use Rattle.fk_base.specs.Limits.{IsNumber}
use Rattle.fk_wire.specs.SentText.{IsSent}
use Rattle.fk_wire.specs.TellText.{IsTell}
use Rattle.fk_wire.specs.declared.message.Tell.TheVariants as tell
use Rattle.fk_spec.specs.Heartbeat.{Stage}
use Rattle.fk_spec.specs.Heartbeat as stage
use Rattle.fk_watch.specs.Beating.{Meaning, evict_sent, is_ended}

-- its session exists in both services, and the lanes that it pushes to may be given one more message
pub record HasSession (t : table.Meaning) (q : post.Meaning) (session : ℕ) : Type 0 where
  pub table : is_some (t.sessions session) ≡ true
  pub post : is_session q.sessions session ≡ true
  pub requests : (q.lanes (lane.Session session)).given < 2 ^ 63 - 1
  pub inbox : (q.lanes (lane.Inbox session)).given < 2 ^ 63 - 1

-- It has not ended, and its number is within the limits of messages.
pub record IsFit (t : table.Meaning) (q : post.Meaning) (m : Meaning) : Type 0 where
  pub going : is_ended m ≡ false
  pub inv : IsNumber m.inv
  pub session : HasSession t q m.session

-- What it sends is a message that can be written, and so is read back.
abbrev pub IsReadable : ℕ → Stage → Type 0
IsReadable n stage.Probe = ⊤
IsReadable n stage.Ping = IsTell (tell.Ping n)
IsReadable n stage.Note = ⊤
IsReadable n stage.Evict = IsSent evict_sent
IsReadable n stage.Ended = ⊤
