-- What a client reads of its services.
use Rattle.std.specs.Prelude.{◌+◌, Option, Some, None}
use Rattle.fk_queue.specs.Meaning as post
use Rattle.fk_queue.specs.declared.lane.Lane.TheVariants as lane
use Rattle.fk_user.specs.Meaning as user
use Rattle.fk_watch.specs.Meaning.{Watches}
use Rattle.fk_watch.specs.Notes.{firing_as}
use Rattle.fk_watch.specs.Setting.{watch_on}
use Rattle.fk_wire.specs.declared.message.Tell.{Tell}
use Rattle.fk_wire.specs.declared.message.Tell.TheVariants as tell
use Rattle.fk_spec.specs.Lanes.{Message, Done, Evicted, Kept, Watch, Ping}
use Rattle.fk_spec.specs.Settling.{Refused, Passed}
use Rattle.fk_spec.specs.Sight.{Sight}
use Rattle.fk_spec.specs.Watches.{Firing}
use Rattle.fk_client.specs.Known.{loss_of}
use Rattle.fk_client.specs.Meaning.{Meaning}
use Rattle.fk_client.specs.Registering.{watch_number}
use Rattle.fk_client.specs.declared.unanswered.Outcome.{Outcome}
use Rattle.fk_client.specs.declared.unanswered.Outcome.TheVariants as outcome

-- ---- what a message tells

-- a message as the rules have it
abbrev pub message_told : Tell → Message
message_told (tell.Done k tx name version made) = Done k tx
message_told (tell.Evicted k tx) = Evicted k tx
message_told (tell.Refused k code at place) = Kept k (Refused code place at)
message_told (tell.Lost k path own found moment) = Kept k (Passed (Some (loss_of path own found moment)))
message_told (tell.Watch tx fired) = Watch fired.id
message_told (tell.Ping n) = Ping n

abbrev pub head_told : Option Tell → Option Message
head_told None = None
head_told (Some m) = Some (message_told m)

-- what a message tells of the command that it speaks of
abbrev pub outcome_in : Tell → Option Outcome
outcome_in (tell.Done k tx name version made) = Some (outcome.Done tx name version made)
outcome_in (tell.Evicted k tx) = None
outcome_in (tell.Refused k code at place) = Some (outcome.Refused code at place)
outcome_in (tell.Lost k path own found moment) = Some (outcome.Lost path own found moment)
outcome_in (tell.Watch tx fired) = None
outcome_in (tell.Ping n) = None

abbrev pub outcome_told : Option Tell → Option Outcome
outcome_told None = None
outcome_told (Some m) = outcome_in m

-- how the watch fired that a message tells of
abbrev pub firing_in : Tell → Option Firing
firing_in (tell.Done k tx name version made) = None
firing_in (tell.Evicted k tx) = None
firing_in (tell.Refused k code at place) = None
firing_in (tell.Lost k path own found moment) = None
firing_in (tell.Watch tx fired) = Some (firing_as tx fired)
firing_in (tell.Ping n) = None

abbrev pub firing_told : Option Tell → Option Firing
firing_told None = None
firing_told (Some m) = firing_in m

-- ---- what an operation reads

-- what a client reads, where `told` is the message at the head of its inbox
abbrev pub sight_by : post.Meaning → Watches → user.Meaning → Option Tell → Meaning → Sight
sight_by q w u told m = record {
  session = m.session;
  asks = m.asks;
  head = head_told told;
  seen = m.seen;
  mark = u.mark;
  epoch = u.epoch;
  next = (q.lanes (lane.Session m.session)).given + 1;
  node = λ path. (u.records path).node;
  stamp = λ path. (u.records path).stamp;
  sweep = λ path. w.last path;
  watch = λ path kind. watch_number w (watch_on m.session path kind);
  firing = λ id. firing_told told;
}

-- the same of services that aren't named
abbrev pub sight_in : Meaning → Sight → Sight
sight_in m s = record s { session = m.session; asks = m.asks; seen = m.seen }
