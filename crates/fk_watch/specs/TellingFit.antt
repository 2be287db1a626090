-- What an operation of a watch function needs, and that what it sends can be read.
use Rattle.std.specs.Prelude.{◌≡◌, ◌<◌, ◌-◌, ◌^◌, true, false, ⊤, List}
use Rattle.fk_queue.specs.Lanes.{is_session}
use Rattle.fk_queue.specs.Meaning as post
use Rattle.fk_queue.specs.declared.lane.Lane.TheVariants as lane
use Rattle.fk_base.specs.Limits.{IsNumber}
use Rattle.fk_wire.specs.TellText.{IsTell}
use Rattle.fk_spec.specs.Teller.{Stage}
use Rattle.fk_spec.specs.Teller as stage
use Rattle.fk_spec.specs.Watches.{Firing}
use Rattle.fk_watch.specs.Notes.{watch_tell}
use Rattle.fk_watch.specs.Telling.{Meaning, is_ended}

-- the watch's number is within the limits of messages, its session exists, and that one's inbox may be given one more
-- message
pub record CanTell (q : post.Meaning) (firing : Firing) : Type 0 where
  pub id : IsNumber firing.watch.id
  pub session : is_session q.sessions firing.watch.session ≡ true
  pub inbox : (q.lanes (lane.Inbox firing.watch.session)).given < 2 ^ 63 - 1

-- It has not ended, its push's number is within the limits of messages, and it can tell the next watch.
pub record IsFit (q : post.Meaning) (m : Meaning) : Type 0 where
  pub going : is_ended m ≡ false
  pub tx : IsNumber m.tx
  pub next : (firing : Firing) (others : List Firing) → m.stage ≡ stage.Tell firing others → CanTell q firing

-- What it sends is a message that can be written, and so is read back.
abbrev pub IsReadable : Stage → Type 0
IsReadable (stage.Tell firing others) = IsTell (watch_tell firing)
IsReadable stage.Told = ⊤
IsReadable stage.Ack = ⊤
IsReadable stage.Ended = ⊤
