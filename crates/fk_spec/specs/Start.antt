-- Who does what: functions, sends and pushes, read from the lines. A history has its newest entry first.
use Rattle.std.specs.Prelude.{ℕ, ◌+◌, ◌==◌, Bool, true, false, if◌then◌else◌, List, [], ◌∷◌, Option, Some, None, max}
use Rattle.fk_tree.specs.declared.request.Request.{Request}
use Rattle.fk_tree.specs.declared.request.Request.TheVariants as request
use Rattle.fk_print.specs.declared.entry.Entry.{Entry}
use Rattle.fk_print.specs.declared.op.Op.{Op}
use Rattle.fk_print.specs.declared.op.Op.TheVariants as op
use Rattle.fk_spec.specs.Plan.{Plan, Ask, Want, Writes, asked}
use Rattle.fk_spec.specs.Shown.{seen_by}

-- the first where there is one
abbrev pub or_else : {A : Type 0} → Option A → Option A → Option A
or_else (Some x) o = Some x
or_else None o = o

abbrev pub when : {A : Type 0} → Bool → A → Option A
when b x = if b then Some x else None

-- the greatest moment of a clock line, 0 where there is none
abbrev pub clock_after : Op → ℕ → ℕ
clock_after (op.Clock moment) n = max moment n
clock_after _ n = n

abbrev pub clock_of : List Entry → ℕ
clock_of [] = 0
clock_of (e ∷ h) = clock_after e.op (clock_of h)

-- what a function was started for: message k of a session's lane, a push, a note, or a session
pub data Task : Type 0 where
  Follows : (session k : ℕ) → Task
  Leads : (tx : ℕ) → Task
  Notifies : (note : ℕ) → Task
  Probes : (session : ℕ) → Task

-- a start line: the function's number and its task
pub record Start : Type 0 where
  pub function : ℕ
  pub task : Task

abbrev pub started_in : Op → Option Start
started_in (op.Follower function session k) = Some (record { function = function; task = Follows session k })
started_in (op.Leader function tx) = Some (record { function = function; task = Leads tx })
started_in (op.Teller function note) = Some (record { function = function; task = Notifies note })
started_in (op.Beat function session) = Some (record { function = function; task = Probes session })
started_in _ = None

abbrev pub count_start : Option Start → ℕ → ℕ
count_start None n = n
count_start (Some s) n = n + 1

-- how many functions were started; they are numbered from 1 in the order of their start lines
abbrev pub starts_of : List Entry → ℕ
starts_of [] = 0
starts_of (e ∷ h) = count_start (started_in e.op) (starts_of h)

abbrev pub task_here : ℕ → Option Start → Option Task
task_here n None = None
task_here n (Some s) = when (s.function == n) s.task

-- what function n was started for
abbrev pub task_of : ℕ → List Entry → Option Task
task_of n [] = None
task_of n (e ∷ h) = or_else (task_here n (started_in e.op)) (task_of n h)

abbrev pub session_followed : Option Task → Option ℕ
session_followed (Some (Follows session k)) = Some session
session_followed _ = None

abbrev pub is_session : ℕ → Option ℕ → Bool
is_session c None = false
is_session c (Some s) = s == c

-- a push: its number, its function and its moment
pub record Push : Type 0 where
  pub tx : ℕ
  pub function : ℕ
  pub moment : ℕ

abbrev pub pushed_in : ℕ → Op → Option Push
pushed_in moment (op.Push function tx) = Some (record { tx = tx; function = function; moment = moment })
pushed_in moment _ = None

abbrev pub count_push : Option Push → ℕ → ℕ
count_push None n = n
count_push (Some p) n = n + 1

-- how many pushes there are; they are numbered from 1 in the order of their lines
abbrev pub pushes_of : List Entry → ℕ
pushes_of [] = 0
pushes_of (e ∷ h) = count_push (pushed_in 0 e.op) (pushes_of h)

abbrev pub push_here : ℕ → Option Push → Option Push
push_here t None = None
push_here t (Some p) = when (p.tx == t) p

-- push t; its moment is the clock's at its line
abbrev pub push_of : ℕ → List Entry → Option Push
push_of t [] = None
push_of t (e ∷ h) = or_else (push_here t (pushed_in (clock_of h) e.op)) (push_of t h)

-- Where a message of a session's lane comes from: a command of the client, with what the client had
-- seen when it was sent, or a heartbeat.
pub data Origin : Type 0 where
  Sent : (command seen : ℕ) → Origin
  Evicted : Origin

abbrev pub probes_session : ℕ → Option Task → Bool
probes_session c (Some (Probes session)) = session == c
probes_session c _ = false

-- the message that this line puts into the lane of session c: its number and its origin
abbrev pub sent_in : ℕ → List Entry → Op → Option Origin
sent_in c h (op.Send session command k) = when (session == c) (Sent command (seen_by c h))
sent_in c h (op.Evict function k) = when (probes_session c (task_of function h)) Evicted
sent_in c h _ = None

abbrev pub count_sent : Option Origin → ℕ → ℕ
count_sent None n = n
count_sent (Some o) n = n + 1

-- how many messages session c's lane was given; they are numbered from 1 in the order of their lines
abbrev pub sends_of : ℕ → List Entry → ℕ
sends_of c [] = 0
sends_of c (e ∷ h) = count_sent (sent_in c h e.op) (sends_of c h)

abbrev pub origin_here : ℕ → ℕ → Option Origin → Option Origin → Option Origin
origin_here n k None o = o
origin_here n k (Some x) o = if n + 1 == k then Some x else o

-- the origin of message k of session c
abbrev pub origin_of : ℕ → ℕ → List Entry → Option Origin
origin_of c k [] = None
origin_of c k (e ∷ h) = origin_here (sends_of c h) k (sent_in c h e.op) (origin_of c k h)

abbrev pub request_in : Want → Option Request
request_in (Writes r) = Some r
request_in _ = None

abbrev pub written : Option Ask → Option Request
written None = None
written (Some a) = request_in a.want

abbrev pub request_from : Plan → ℕ → Option Origin → Option Request
request_from p c None = None
request_from p c (Some (Sent command seen)) = written (asked p c command)
request_from p c (Some Evicted) = Some (request.Close true)

-- the request of message k of session c
abbrev pub request_of : Plan → ℕ → ℕ → List Entry → Option Request
request_of p c k h = request_from p c (origin_of c k h)

abbrev pub seen_from : Option Origin → ℕ
seen_from (Some (Sent command seen)) = seen
seen_from _ = 0

-- what the client had seen when it sent message k; 0 for a heartbeat's
abbrev pub seen_with : ℕ → ℕ → List Entry → ℕ
seen_with c k h = seen_from (origin_of c k h)

-- the request of a push: whose, which message of its lane, what and when
pub record Pushed : Type 0 where
  pub session : ℕ
  pub k : ℕ
  pub moment : ℕ
  pub request : Request

abbrev pub pushed_request : ℕ → ℕ → ℕ → Option Request → Option Pushed
pushed_request moment session k None = None
pushed_request moment session k (Some r) = Some (record { session = session; k = k; moment = moment; request = r })

abbrev pub pushed_for : Plan → ℕ → Option Task → List Entry → Option Pushed
pushed_for p moment (Some (Follows session k)) h = pushed_request moment session k (request_of p session k h)
pushed_for p moment _ h = None

abbrev pub pushed_by : Plan → Option Push → List Entry → Option Pushed
pushed_by p None h = None
pushed_by p (Some x) h = pushed_for p x.moment (task_of x.function h) h

-- what push t asks for: the request of its function's start line
abbrev pub pushed_of : Plan → ℕ → List Entry → Option Pushed
pushed_of p t h = pushed_by p (push_of t h) h
