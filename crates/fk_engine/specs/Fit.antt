-- What an event needs, and what it reads.
use Rattle.std.specs.Prelude.{◌≡◌, ℕ, ◌-◌, ◌<◌, ◌^◌, true, false, ⊤, Option, Some, None}
use Rattle.fk_client.specs.Fit.{IsFit as ClientIsFit}
use Rattle.fk_client.specs.Idle.{is_idle}
use Rattle.fk_client.specs.Meaning as client
use Rattle.fk_print.specs.declared.event.Event.{Event}
use Rattle.fk_print.specs.declared.event.Event.TheVariants as event
use Rattle.fk_queue.specs.Lanes.{is_session}
use Rattle.fk_queue.specs.declared.lane.Lane.TheVariants as lane
use Rattle.fk_spec.specs.Plan.{nth}
use Rattle.fk_wire.specs.NoteText.{IsNoteText}
use Rattle.fk_wire.specs.PushedText.{IsPushedText}
use Rattle.fk_wire.specs.SentText.{IsSentText}
use Rattle.fk_engine.specs.Events.{lane_in}
use Rattle.fk_engine.specs.Heads.{IsHead, IsReadable}
use Rattle.fk_engine.specs.Parts.{Meaning}
use Rattle.fk_engine.specs.Reads.{Read}
use Rattle.fk_engine.specs.Serving.{armed}
use Rattle.fk_engine.specs.Stepping.{FitsStepOf, IsReadBy}
use Rattle.fk_engine.specs.Turning.{IsTold}
use Rattle.fk_watch.specs.Services.{Services}

-- a client's session exists in the post, and its next operation, where it has one, is fit
pub record FitsTurn (s : Services) (m : client.Meaning) : Type 0 where
  pub session : is_session s.post.sessions m.session ≡ true
  pub turn : is_idle s.post m ≡ false → ClientIsFit s.table s.post s.watches m

abbrev pub FitsTurnOf : Services → Option client.Meaning → Type 0
FitsTurnOf s None = ⊤
FitsTurnOf s (Some m) = FitsTurn s m

-- fewer functions were started than numbers go
abbrev pub CanStart : Meaning → Type 0
CanStart p = p.functions.started < 2 ^ 63 - 1

-- a follower can start on the head of a session's lane: the session exists, and the head can be read
pub record FitsDelivery (p : Meaning) (c : ℕ) : Type 0 where
  pub starts : CanStart p
  pub session : is_session p.services.post.sessions c ≡ true
  pub head : IsReadable IsSentText (lane_in p (lane.Session c)).waiting

-- What an event needs: the next operation of its client or of its function is fit, its session exists, and the head of
-- its lane can be read.
abbrev pub FitsEvent : Meaning → Event → Type 0
FitsEvent p (event.Client c) = FitsTurnOf p.services (nth p.clients c)
FitsEvent p (event.Deliver c) = FitsDelivery p c
FitsEvent p event.Leader = CanStart p × IsReadable IsPushedText (lane_in p lane.Leader).waiting
FitsEvent p event.Watch = CanStart p × IsReadable IsNoteText (lane_in p lane.Watch).waiting
FitsEvent p (event.Beat c) = CanStart p
FitsEvent p (event.Step n) = FitsStepOf p.services p.times (p.functions.running n)
FitsEvent p (event.Crash n) = ⊤
FitsEvent p (event.Fail n) = FitsStepOf p.services p.times (p.functions.running n)
FitsEvent p (event.FailClient c) = FitsTurnOf p.services (nth p.clients c)
FitsEvent p (event.Clock moment) = ⊤

-- These are what an event reads; there is one such reading as far as the event looks at it.
abbrev pub IsReadAt : Meaning → Event → Read → Type 0
IsReadAt p (event.Client c) r = IsTold p.services r.told (nth p.clients c)
IsReadAt p (event.Deliver c) r = IsHead IsSentText (lane_in p (lane.Session c)).waiting r.sent
IsReadAt p event.Leader r = IsHead IsPushedText (lane_in p lane.Leader).waiting r.pushed
IsReadAt p event.Watch r = IsHead IsNoteText (lane_in p lane.Watch).waiting r.note
IsReadAt p (event.Beat c) r = ⊤
IsReadAt p (event.Step n) r = IsReadBy p.services r (p.functions.running n)
IsReadAt p (event.Crash n) r = ⊤
IsReadAt p (event.Fail n) r = IsReadBy (armed p.services) r (p.functions.running n)
IsReadAt p (event.FailClient c) r = IsTold (armed p.services) r.told (nth p.clients c)
IsReadAt p (event.Clock moment) r = ⊤
