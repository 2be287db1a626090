-- What an operation of a client needs.
use Rattle.std.specs.Prelude.{◌≡◌, ◌<◌, ◌-◌, ◌^◌, true, false, ⊤, Option, Some, None, is_some}
use Rattle.fk_queue.specs.Lanes.{is_session}
use Rattle.fk_queue.specs.Meaning as post
use Rattle.fk_queue.specs.declared.lane.Lane.TheVariants as lane
use Rattle.fk_store.specs.Meaning as table
use Rattle.fk_watch.specs.Meaning.{Watches}
use Rattle.fk_wire.specs.Limits.{IsLimitedRequest}
use Rattle.fk_base.specs.Limits.{IsNumber}
use Rattle.fk_spec.specs.Plan.{Ask, Want, Unfit, Writes, Reads}
use Rattle.fk_client.specs.Idle.{is_idle}
use Rattle.fk_client.specs.Meaning.{Meaning, next_ask}
use Rattle.fk_client.specs.Told.{IsReadable}

abbrev pub IsLimitedWant : Want → Type 0
IsLimitedWant Unfit = ⊤
IsLimitedWant (Writes r) = IsLimitedRequest r
IsLimitedWant (Reads q watch) = ⊤

-- the request of a command is within the limits of messages
abbrev pub IsLimitedAsk : Option Ask → Type 0
IsLimitedAsk None = ⊤
IsLimitedAsk (Some a) = IsLimitedWant a.want

-- It isn't idle, its session exists in the table and in the post, the head of its inbox is the text of a message,
-- and its numbers, its next request and those that the services give are within the limits of messages.
pub record IsFit (t : table.Meaning) (q : post.Meaning) (w : Watches) (m : Meaning) : Type 0 where
  pub busy : is_idle q m ≡ false
  pub table : is_some (t.sessions m.session) ≡ true
  pub post : is_session q.sessions m.session ≡ true
  pub inbox : IsReadable (q.lanes (lane.Inbox m.session)).waiting
  pub sends : (q.lanes (lane.Session m.session)).given < 2 ^ 63 - 1
  pub watches : w.given < 2 ^ 63 - 1
  pub seen : IsNumber m.seen
  pub request : IsLimitedAsk (next_ask m)
