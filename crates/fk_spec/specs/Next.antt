-- The one entry that may follow a history at an event.
use Rattle.std.specs.Prelude.{◌≡◌, ℕ, ◌+◌, Bool, true, if◌then◌else◌, List, [], ◌∷◌, Option, Some, None, max}
use Rattle.fk_tree.specs.declared.applied.Applied.{Applied}
use Rattle.fk_tree.specs.declared.request.Request.{Request}
use Rattle.fk_tree.specs.declared.request.Request.TheVariants as request
use Rattle.fk_print.specs.declared.entry.Entry.{Entry}
use Rattle.fk_print.specs.declared.event.Event.{Event}
use Rattle.fk_print.specs.declared.event.Event.TheVariants as event
use Rattle.fk_print.specs.declared.line.Act.{Act}
use Rattle.fk_print.specs.declared.line.Act.TheVariants as act
use Rattle.fk_print.specs.declared.line.Line.{Line}
use Rattle.fk_print.specs.declared.line.Line.TheVariants as line
use Rattle.fk_print.specs.declared.line.Printed.{Printed}
use Rattle.fk_print.specs.declared.op.Op.{Op}
use Rattle.fk_print.specs.declared.op.Op.TheVariants as op
use Rattle.fk_spec.specs.Plan.{Plan, is_client}
use Rattle.fk_spec.specs.Start.{clock_of, starts_of}
use Rattle.fk_spec.specs.Stored.{committed_as}
use Rattle.fk_spec.specs.Lanes.{session_head, leader_head, watch_head}
use Rattle.fk_spec.specs.Function.{Place, place_of, is_absent, function_op, fault_op}
use Rattle.fk_spec.specs.Client.{client_in, client_op, failed_op}
use Rattle.fk_spec.specs.Replies.{client_lines}

-- a delivery starts a function on a lane's head
abbrev pub follow_op : ℕ → ℕ → Option ℕ → Op
follow_op n c None = op.Idle
follow_op n c (Some k) = op.Follower n c k

abbrev pub lead_op : ℕ → Option ℕ → Op
lead_op n None = op.Idle
lead_op n (Some t) = op.Leader n t

abbrev pub tell_op : ℕ → Option ℕ → Op
tell_op n None = op.Idle
tell_op n (Some w) = op.Teller n w

abbrev pub crash_op : ℕ → Place → Op
crash_op n x = if is_absent x then op.Idle else op.Crash n

-- The operation of an event: a delivery or a beat starts a function, a step makes a function's next
-- operation, which fails at a fail event; a client's turn makes the client's.
abbrev pub next_op : Plan → List Entry → Event → Op
next_op p h (event.Client c) = client_op p c h
next_op p h (event.Deliver c) = follow_op (starts_of h + 1) c (session_head c h)
next_op p h event.Leader = lead_op (starts_of h + 1) (leader_head h)
next_op p h event.Watch = tell_op (starts_of h + 1) (watch_head h)
next_op p h (event.Beat c) = op.Beat (starts_of h + 1) c
next_op p h (event.Step n) = function_op p h n (place_of p n h)
next_op p h (event.Crash n) = crash_op n (place_of p n h)
next_op p h (event.Fail n) = fault_op n (place_of p n h)
next_op p h (event.FailClient c) = failed_op (client_op p c h)
next_op p h (event.Clock moment) = op.Clock (max moment (clock_of h))

abbrev pub act_by : Applied → Request → Act
act_by a (request.Create path bytes seq eph) = act.Create a.name bytes seq eph
act_by a (request.Set path bytes version) = act.Set path bytes version
act_by a (request.Delete path version) = act.Delete path version
act_by a (request.Close evict) = act.Close evict a.gone
act_by a (request.Multi parts) = act.Multi parts

-- a transaction as its line shows it
abbrev pub printed_of : Applied → Printed
printed_of a = record { tx = a.tx; moment = a.moment; session = a.session; k = a.k; act = act_by a a.request }

abbrev pub tx_lines : Option Applied → List Line
tx_lines None = []
tx_lines (Some a) = line.Tx (printed_of a) ∷ []

abbrev pub lines_of_client : Plan → List Entry → Op → Option ℕ → List Line
lines_of_client p h o None = []
lines_of_client p h o (Some c) = client_lines p c h o

-- the public lines of an operation: a publication's transaction, or a client's replies
abbrev pub next_lines : Plan → List Entry → Op → List Line
next_lines p h (op.PublishOk n tx) = tx_lines (committed_as p tx h)
next_lines p h o = lines_of_client p h o (client_in o)

-- the entry that follows
abbrev pub next_entry : Plan → List Entry → Event → Entry
next_entry p h e = let o = next_op p h e in record { event = e; op = o; lines = next_lines p h o }

-- a client that an event names is one of the plan's
abbrev pub names_client : Plan → Event → Bool
names_client p (event.Client c) = is_client p c
names_client p (event.Deliver c) = is_client p c
names_client p (event.Beat c) = is_client p c
names_client p (event.FailClient c) = is_client p c
names_client p _ = true

-- an entry follows others: its event names a client, where it names one, and it is the next at its event
abbrev pub IsNext : Plan → List Entry → Entry → Type 0
IsNext p h e = (e ≡ next_entry p h e.event) × (names_client p e.event ≡ true)

-- each entry follows those before it
abbrev pub IsHistory : Plan → List Entry → Type 0
IsHistory p [] = Unit {0}
IsHistory p (e ∷ h) = IsHistory p h × IsNext p h e
