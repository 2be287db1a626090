-- What the questions of a drain need.
use Rattle.std.specs.Prelude.{◌≡◌, ◌+◌, ◌≤◌, ◌<◌, ◌^◌, true, ⊤, List, [], ◌∷◌, length, Option, Some, None}
use Rattle.fk_client.specs.Meaning as client
use Rattle.fk_print.specs.declared.event.Event.{Event}
use Rattle.fk_print.specs.declared.event.Event.TheVariants as event
use Rattle.fk_queue.specs.Lanes.{is_session}
use Rattle.fk_queue.specs.Meaning as post
use Rattle.fk_spec.specs.Plan.{nth}
use Rattle.fk_engine.specs.Parts.{Meaning}

-- a client's session exists in the post
abbrev pub IsPosted : post.Meaning → client.Meaning → Type 0
IsPosted q m = is_session q.sessions m.session ≡ true

abbrev pub ArePosted : post.Meaning → List client.Meaning → Type 0
ArePosted q [] = ⊤
ArePosted q (m ∷ ms) = IsPosted q m × ArePosted q ms

-- the post has a session for each client
pub record FitsDrain (p : Meaning) : Type 0 where
  pub few : 1 + length p.clients < 2 ^ 32
  pub sessions : length p.clients ≤ p.services.post.sessions
  pub posted : ArePosted p.services.post p.clients

abbrev pub IsPostedAt : post.Meaning → Option client.Meaning → Type 0
IsPostedAt q None = ⊤
IsPostedAt q (Some m) = IsPosted q m

-- the session that an event looks at exists in the post
abbrev pub FitsReady : Meaning → Event → Type 0
FitsReady p (event.Client c) = IsPostedAt p.services.post (nth p.clients c)
FitsReady p (event.Deliver c) = is_session p.services.post.sessions c ≡ true
FitsReady p event.Leader = ⊤
FitsReady p event.Watch = ⊤
FitsReady p (event.Beat c) = ⊤
FitsReady p (event.Step n) = ⊤
FitsReady p (event.Crash n) = ⊤
FitsReady p (event.Fail n) = ⊤
FitsReady p (event.FailClient c) = IsPostedAt p.services.post (nth p.clients c)
FitsReady p (event.Clock moment) = ⊤
