-- What a drain does next, and which events would do something.
use Rattle.std.specs.Prelude.{ℕ, suc, ◌==◌, ◌&&◌, Bool, true, false, not, if◌then◌else◌, List, [], ◌∷◌, Option, Some, None, is_some}
use Rattle.fk_client.specs.Idle.{is_idle, owes_none}
use Rattle.fk_client.specs.Meaning as client
use Rattle.fk_client.specs.Meaning.{is_finished}
use Rattle.fk_print.specs.declared.event.Event.{Event}
use Rattle.fk_print.specs.declared.event.Event.TheVariants as event
use Rattle.fk_queue.specs.Letters.{head_number}
use Rattle.fk_queue.specs.Meaning as post
use Rattle.fk_queue.specs.Meaning.{waiting_in}
use Rattle.fk_queue.specs.declared.lane.Lane.TheVariants as lane
use Rattle.fk_spec.specs.Plan.{nth}
use Rattle.fk_spec.specs.Schedule.{deliver_where, lead_where, step_of_first, tell_where}
use Rattle.fk_spec.specs.Start.{or_else}
use Rattle.fk_engine.specs.Events.{head_in}
use Rattle.fk_engine.specs.Parts.{Meaning}

-- the first session from c on whose lane isn't empty, of as many as there are clients here
abbrev pub deliver_first : List client.Meaning → ℕ → post.Meaning → Option Event
deliver_first [] c q = None
deliver_first (m ∷ ms) c q =
    or_else (deliver_where c (head_number (q.lanes (lane.Session c)))) (deliver_first ms (suc c) q)

-- the first of these clients that isn't idle; they are numbered from c on
abbrev pub turn_first : List client.Meaning → ℕ → post.Meaning → Option Event
turn_first [] c q = None
turn_first (m ∷ ms) c q = if is_idle q m then turn_first ms (suc c) q else Some (event.Client c)

-- a delivery to a follower, else a turn
abbrev pub next_of_clients : Meaning → Option Event
next_of_clients p = or_else (deliver_first p.clients 1 p.services.post) (turn_first p.clients 1 p.services.post)

-- a delivery, else a turn
abbrev pub next_delivery : Meaning → Option Event
next_delivery p =
    or_else (tell_where (head_in p lane.Watch)) (or_else (lead_where (head_in p lane.Leader)) (next_of_clients p))

-- What a drain does next, where these functions are in flight: a step of the first of them, a delivery to a watch
-- function, one to the leader, one to the first session whose lane isn't empty, or a turn of the first client that
-- isn't idle.
abbrev pub next_of_drain : List ℕ → Meaning → Option Event
next_of_drain ns p = or_else (step_of_first ns) (next_delivery p)

abbrev pub is_busy : post.Meaning → Option client.Meaning → Bool
is_busy q None = false
is_busy q (Some m) = not (is_idle q m)

-- Whether an event would make an operation.
abbrev pub is_ready : Meaning → Event → Bool
is_ready p (event.Client c) = is_busy p.services.post (nth p.clients c)
is_ready p (event.Deliver c) = is_some (head_in p (lane.Session c))
is_ready p event.Leader = is_some (head_in p lane.Leader)
is_ready p event.Watch = is_some (head_in p lane.Watch)
is_ready p (event.Beat c) = true
is_ready p (event.Step n) = is_some (p.functions.running n)
is_ready p (event.Crash n) = is_some (p.functions.running n)
is_ready p (event.Fail n) = is_some (p.functions.running n)
is_ready p (event.FailClient c) = is_busy p.services.post (nth p.clients c)
is_ready p (event.Clock moment) = true

abbrev pub is_none_listed : List ℕ → Bool
is_none_listed [] = true
is_none_listed (n ∷ ns) = false

-- whether a client has answered all its commands and owes no ping
abbrev pub is_done : client.Meaning → Bool
is_done m = is_finished m && owes_none m.client.owed

abbrev pub are_done : List client.Meaning → Bool
are_done [] = true
are_done (m ∷ ms) = is_done m && are_done ms

-- Whether all is quiet, where these functions are in flight: there is none, no message waits in any lane, and every
-- client is done.
abbrev pub is_quiet : List ℕ → Meaning → Bool
is_quiet ns p = is_none_listed ns && (waiting_in p.services.post == 0) && are_done p.clients
