-- An engine that stands where a history says.
use Rattle.std.specs.Prelude.{◌≡◌, ℕ, List, length, Option, Some, None}
use Rattle.fk_print.specs.declared.entry.Entry.{Entry}
use Rattle.fk_base.specs.Limits.{IsNumber}
use Rattle.fk_stand.specs.Standing.{Standing}
use Rattle.fk_spec.specs.Plan.{Plan, nth}
use Rattle.fk_spec.specs.Start.{clock_of, starts_of}
use Rattle.fk_spec.specs.Lanes.{inbox_of}
use Rattle.fk_spec.specs.Function.{Absent, place_of}
use Rattle.fk_spec.specs.Next.{IsHistory}
use Rattle.fk_law_watch.specs.FirstNumbers.{ReadsAreReads}
use Rattle.fk_client.specs.Meaning as client
use Rattle.fk_engine.specs.Flights as functions
use Rattle.fk_engine.specs.Machines as machine
use Rattle.fk_engine.specs.Machines.{Follower, Leader, Teller, Beat}
use Rattle.fk_engine.specs.Parts.{Meaning}
use Rattle.fk_agree_client.specs.Inbox.{CanBeSaid}
use Rattle.fk_agree_client.specs.Serving.{AsksWithinLimits}
use Rattle.fk_agree_client.specs.Standing.{IsClient}
use Rattle.fk_agree_follow.specs.Followers.{IsFollower, IsReadableRequest}
use Rattle.fk_agree_lead.specs.Leaders.{IsLeader, IsReadablePush}
use Rattle.fk_agree_notify.specs.Beats.{IsBeat}
use Rattle.fk_agree_notify.specs.Tellers.{IsReadableNote, IsTeller}

-- What stands under number n is function n where the history says; nothing stands there exactly where it isn't in
-- flight.
abbrev pub StandsAs : Plan → ℕ → List Entry → Option machine.Meaning → Type 0
StandsAs p n h None = place_of p n h ≡ Absent
StandsAs p n h (Some (Follower m)) = IsFollower p n h m
StandsAs p n h (Some (Leader m)) = IsLeader p n h m
StandsAs p n h (Some (Teller m)) = IsTeller p n h m
StandsAs p n h (Some (Beat m)) = IsBeat p n h m

pub record FunctionsStand (p : Plan) (h : List Entry) (f : functions.Meaning) : Type 0 where
  pub started : f.started ≡ starts_of h
  pub running : (n : ℕ) → StandsAs p n h (f.running n)

-- there is one client for each of the plan's, and it stands where the history says
pub record ClientsStand (p : Plan) (h : List Entry) (ms : List client.Meaning) : Type 0 where
  pub count : length ms ≡ length p.asks
  pub each : (c : ℕ) (m : client.Meaning) → nth ms c ≡ Some m → IsClient p c h m

-- each push, each note, and what the inboxes tell can be written as messages
pub record AreReadable (p : Plan) (h : List Entry) : Type 0 where
  pub pushes : (t : ℕ) → IsReadablePush p t h
  pub notes : (w : ℕ) → IsReadableNote p w h
  pub tells : (c : ℕ) → CanBeSaid p h (inbox_of p c h)

-- An engine stands where a history says: its times, its functions, its clients and its services do, and what it sent
-- can be read.
pub record IsWorld (p : Plan) (h : List Entry) (w : Meaning) : Type 0 where
  pub history : IsHistory p h
  pub clock : w.times.clock ≡ clock_of h
  pub moment : IsNumber (clock_of h)
  pub lock : w.times.lock ≡ p.lock
  pub beat : w.times.beat ≡ p.beat
  pub functions : FunctionsStand p h w.functions
  pub clients : ClientsStand p h w.clients
  pub services : Standing p h w.services.table w.services.post w.services.user w.services.watches
  pub readable : AreReadable p h

-- What a plan asks is within the limits of messages, and asks for an answer with the verb of a read.
pub record IsWithinLimits (p : Plan) : Type 0 where
  pub reads : ReadsAreReads p
  pub requests : (c k : ℕ) (h : List Entry) → IsHistory p h → IsNumber (length h) → IsReadableRequest p c k h
  pub asks : (c : ℕ) → AsksWithinLimits p c
