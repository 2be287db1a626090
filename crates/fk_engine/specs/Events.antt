-- The operation of each event, its public lines, and everything after it.
use Rattle.std.specs.Prelude.{ℕ, ◌+◌, max, List, [], Option, Some, None}
use Rattle.fk_follow.specs.Meaning as follower
use Rattle.fk_lead.specs.Meaning as leader
use Rattle.fk_print.specs.declared.event.Event.{Event}
use Rattle.fk_print.specs.declared.event.Event.TheVariants as event
use Rattle.fk_print.specs.declared.line.Line.{Line}
use Rattle.fk_print.specs.declared.op.Op.{Op}
use Rattle.fk_print.specs.declared.op.Op.TheVariants as op
use Rattle.fk_queue.specs.Letters.{LaneState, head_number}
use Rattle.fk_queue.specs.declared.lane.Lane.{Lane}
use Rattle.fk_queue.specs.declared.lane.Lane.TheVariants as lane
use Rattle.fk_spec.specs.Next.{follow_op, lead_op, tell_op}
use Rattle.fk_spec.specs.Plan.{nth}
use Rattle.fk_watch.specs.Beating as beat
use Rattle.fk_watch.specs.Telling as teller
use Rattle.fk_wire.specs.declared.message.Note.{Note}
use Rattle.fk_wire.specs.declared.message.Pushed.{Pushed}
use Rattle.fk_wire.specs.declared.message.Sent.{Sent}
use Rattle.fk_engine.specs.Flights as functions
use Rattle.fk_engine.specs.Flights.{with_started, without}
use Rattle.fk_engine.specs.Machines as machine
use Rattle.fk_engine.specs.Machines.{Follower, Leader, Teller, Beat}
use Rattle.fk_engine.specs.Parts.{Meaning, with_clock, with_functions}
use Rattle.fk_engine.specs.Reads.{Read}
use Rattle.fk_engine.specs.Serving.{armed, calmed}
use Rattle.fk_engine.specs.Stepping.{function_lines, function_moved, function_op, function_services}
use Rattle.fk_engine.specs.Turning.{client_lines, client_op, client_services, clients_after}
use Rattle.fk_watch.specs.Services.{Services}

-- ---- a lane's head starts a function

abbrev pub lane_in : Meaning → Lane → LaneState
lane_in p l = p.services.post.lanes l

abbrev pub head_in : Meaning → Lane → Option ℕ
head_in p l = head_number (lane_in p l)

-- the number of the next function
abbrev pub next_number : Meaning → ℕ
next_number p = p.functions.started + 1

abbrev pub follower_on : ℕ → ℕ → Option ℕ → Option Sent → Option machine.Meaning
follower_on n c (Some k) (Some m) = Some (Follower (follower.started n c k m))
follower_on n c (Some k) None = None
follower_on n c None (Some m) = None
follower_on n c None None = None

abbrev pub leader_on : ℕ → Option ℕ → Option Pushed → Option machine.Meaning
leader_on n (Some tx) (Some m) = Some (Leader (leader.started n tx m))
leader_on n (Some tx) None = None
leader_on n None (Some m) = None
leader_on n None None = None

abbrev pub teller_on : ℕ → Option ℕ → Option Note → Option machine.Meaning
teller_on n (Some number) (Some m) = Some (Teller (teller.started n number m))
teller_on n (Some number) None = None
teller_on n None (Some m) = None
teller_on n None None = None

-- the functions after this one started, where there is one
abbrev pub after_start : Option machine.Meaning → functions.Meaning → functions.Meaning
after_start None f = f
after_start (Some m) f = with_started m f

-- a function that is in flight ends where it stands
abbrev pub crash_op : ℕ → Option machine.Meaning → Op
crash_op n None = op.Idle
crash_op n (Some m) = op.Crash n

-- ---- the events

-- The operation of an event.
abbrev pub op_at : Meaning → Event → Read → Op
op_at p (event.Client c) r = client_op p.services r.told (nth p.clients c)
op_at p (event.Deliver c) r = follow_op (next_number p) c (head_in p (lane.Session c))
op_at p event.Leader r = lead_op (next_number p) (head_in p lane.Leader)
op_at p event.Watch r = tell_op (next_number p) (head_in p lane.Watch)
op_at p (event.Beat c) r = op.Beat (next_number p) c
op_at p (event.Step n) r = function_op p.services p.times r (p.functions.running n)
op_at p (event.Crash n) r = crash_op n (p.functions.running n)
op_at p (event.Fail n) r = function_op (armed p.services) p.times r (p.functions.running n)
op_at p (event.FailClient c) r = client_op (armed p.services) r.told (nth p.clients c)
op_at p (event.Clock moment) r = op.Clock (max moment p.times.clock)

-- Its public lines: those of a client's turn, and the transaction of a leader's publication.
abbrev pub lines_at : Meaning → Event → Read → List Line
lines_at p (event.Client c) r = client_lines p.services r.told (nth p.clients c)
lines_at p (event.Deliver c) r = []
lines_at p event.Leader r = []
lines_at p event.Watch r = []
lines_at p (event.Beat c) r = []
lines_at p (event.Step n) r = function_lines p.services p.times r (p.functions.running n)
lines_at p (event.Crash n) r = []
lines_at p (event.Fail n) r = function_lines (armed p.services) p.times r (p.functions.running n)
lines_at p (event.FailClient c) r = client_lines (armed p.services) r.told (nth p.clients c)
lines_at p (event.Clock moment) r = []

-- this function starts, where there is one
abbrev pub starting : Option machine.Meaning → Meaning → Meaning
starting m p = with_functions (after_start m p.functions) p

-- a function's operation on these services, then what `calm` makes of them
abbrev pub stepped : Meaning → (Services → Services) → Services → Read → ℕ → Meaning
stepped p calm s r n = record p {
  functions = function_moved s p.times r n (p.functions.running n) p.functions;
  services = calm (function_services s p.times (p.functions.running n));
}

abbrev pub turned : Meaning → (Services → Services) → Services → Read → ℕ → Meaning
turned p calm s r c = record p {
  clients = clients_after s r.told c (nth p.clients c) p.clients;
  services = calm (client_services s r.told (nth p.clients c));
}

abbrev pub as_it_is : Services → Services
as_it_is s = s

-- Everything after it. A failure arms the services before the operation, and calms them after it.
abbrev pub after_event : Meaning → Event → Read → Meaning
after_event p (event.Client c) r = turned p as_it_is p.services r c
after_event p (event.Deliver c) r = starting (follower_on (next_number p) c (head_in p (lane.Session c)) r.sent) p
after_event p event.Leader r = starting (leader_on (next_number p) (head_in p lane.Leader) r.pushed) p
after_event p event.Watch r = starting (teller_on (next_number p) (head_in p lane.Watch) r.note) p
after_event p (event.Beat c) r = starting (Some (Beat (beat.started (next_number p) c))) p
after_event p (event.Step n) r = stepped p as_it_is p.services r n
after_event p (event.Crash n) r = with_functions (without n p.functions) p
after_event p (event.Fail n) r = stepped p calmed (armed p.services) r n
after_event p (event.FailClient c) r = turned p calmed (armed p.services) r c
after_event p (event.Clock moment) r = with_clock (max moment p.times.clock) p
