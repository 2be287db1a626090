-- What each operation of a client says of the client and of the entries before it.
use Rattle.std.specs.Prelude.{◌≡◌, ℕ, ◌+◌, ◌<◌, ◌≤◌, ◌⊎◌, Bool, true, false, List, [], ◌∷◌, Option, Some, None}
use Rattle.fk_tree.specs.Ask.{path_asked}
use Rattle.fk_tree.specs.Watch.{kind_asked}
use Rattle.fk_tree.specs.declared.request.Query.{Query}
use Rattle.fk_tree.specs.declared.request.Request.{Request}
use Rattle.fk_print.specs.declared.entry.Entry.{Entry}
use Rattle.fk_print.specs.declared.op.Op.{Op}
use Rattle.fk_print.specs.declared.op.Op.TheVariants as op
use Rattle.fk_spec.specs.Plan.{Plan, Ask, Unfit, Writes, Reads, asked, asks_in}
use Rattle.fk_spec.specs.Shown.{seen_by}
use Rattle.fk_spec.specs.Start.{sends_of}
use Rattle.fk_spec.specs.Settling.{mark_of}
use Rattle.fk_spec.specs.Stored.{stamp_of}
use Rattle.fk_spec.specs.Watches.{last_sweep, published_epoch}
use Rattle.fk_spec.specs.Lanes.{inbox_of}
use Rattle.fk_spec.specs.Sight.{watch_number}
use Rattle.fk_spec.specs.Client.{by_result, client_in, client_of, first_held, may_begin, number_read, target_of, Reading, Target}
use Rattle.fk_spec.specs.Next.{IsHistory}

-- what client c looks for before it prints
abbrev pub target_by : Plan → ℕ → List Entry → Option Target
target_by p c h = target_of by_result (seen_by c h) (client_of p c h) (client_of p c h).reading

-- the first number of the published epoch whose watch client c holds
abbrev pub held_in_epoch : Plan → ℕ → List Entry → Option ℕ
held_in_epoch p c h = first_held (published_epoch p h) (client_of p c h).held

-- client c owes no ping, and its inbox is empty
pub record HasNoMessage (p : Plan) (c : ℕ) (h : List Entry) : Type 0 where
  pub pings : (client_of p c h).owed ≡ []
  pub inbox : inbox_of p c h ≡ []

-- client c looks for a number before it prints the line of command i, and no message comes first
pub record LooksFor (p : Plan) (c i : ℕ) (h : List Entry) : Type 0 where
  pub number : ℕ
  pub target : target_by p c h ≡ Some (record { command = i; number = number })
  pub first : HasNoMessage p c h

-- the next command, i, reads, and its read was looked at and waits for its registration
pub record WaitsToRegister (p : Plan) (c i : ℕ) (h : List Entry) : Type 0 where
  pub first : HasNoMessage p c h
  pub unsought : target_by p c h ≡ None
  pub next : i ≡ (client_of p c h).begun + 1
  pub reading : Reading
  pub made : (client_of p c h).reading ≡ Some reading
  pub looked : reading.looked ≡ true
  pub ask : Ask
  pub is_asked : asked p c i ≡ Some ask
  pub query : Query
  pub watch : Bool
  pub reads : ask.want ≡ Reads query watch

-- Client c begins its next command, i: it makes no read, nothing is looked for, and the commands that are
-- unanswered allow it.
pub record Begins (p : Plan) (c i : ℕ) (h : List Entry) : Type 0 where
  pub first : HasNoMessage p c h
  pub unsought : target_by p c h ≡ None
  pub next : i ≡ (client_of p c h).begun + 1
  pub reads_nothing : (client_of p c h).reading ≡ None
  pub ask : Ask
  pub is_asked : asked p c i ≡ Some ask
  pub allowed : may_begin by_result (asks_in p c) ask (client_of p c h).sent ≡ true

-- it begins a change of the tree, and doesn't know its session as closed
pub record BeginsWrite (p : Plan) (c i : ℕ) (h : List Entry) : Type 0 where
  pub begins : Begins p c i h
  pub request : Request
  pub writes : begins.ask.want ≡ Writes request
  pub session_open : (client_of p c h).closed ≡ false

-- it begins a query, and doesn't know its session as closed
pub record BeginsRead (p : Plan) (c i : ℕ) (h : List Entry) : Type 0 where
  pub begins : Begins p c i h
  pub query : Query
  pub watch : Bool
  pub reads : begins.ask.want ≡ Reads query watch
  pub session_open : (client_of p c h).closed ≡ false

-- What an operation of client c says.
abbrev pub OperationSays : Plan → ℕ → List Entry → Op → Type 0
OperationSays p c h (op.Pong d ping) = (others : List ℕ) × ((client_of p c h).owed ≡ ping ∷ others)
OperationSays p c h (op.TakeDone d k t) = (client_of p c h).owed ≡ []
OperationSays p c h (op.TakeEvicted d k t) = (client_of p c h).owed ≡ []
OperationSays p c h (op.TakeRefused d k) = (client_of p c h).owed ≡ []
OperationSays p c h (op.TakeLost d k) = (client_of p c h).owed ≡ []
OperationSays p c h (op.TakeWatch d id) = (client_of p c h).owed ≡ []
OperationSays p c h (op.TakePing d ping) = (client_of p c h).owed ≡ []
OperationSays p c h (op.TakeFault d) = (client_of p c h).owed ≡ []
OperationSays p c h (op.LookOk d i mark) = (f : LooksFor p c i h) × (mark ≡ mark_of h) × (f.number ≤ mark_of h) × (held_in_epoch p c h ≡ None)
OperationSays p c h (op.LookHeld d i mark id) = (f : LooksFor p c i h) × (mark ≡ mark_of h) × (f.number ≤ mark_of h) × (held_in_epoch p c h ≡ Some id)
OperationSays p c h (op.LookBehind d i mark) = (f : LooksFor p c i h) × (mark ≡ mark_of h) × (mark_of h < f.number)
OperationSays p c h (op.LookFault d i) = LooksFor p c i h
OperationSays p c h (op.WatchSet d i id) = (w : WaitsToRegister p c i h) × (last_sweep p (path_asked w.query) h ≤ number_read (seen_by c h) w.reading) × (id ≡ watch_number p c h (path_asked w.query) (kind_asked w.query))
OperationSays p c h (op.WatchSwept d i t) = (w : WaitsToRegister p c i h) × (number_read (seen_by c h) w.reading < t) × (t ≡ last_sweep p (path_asked w.query) h)
OperationSays p c h (op.WatchFault d i) = WaitsToRegister p c i h
OperationSays p c h (op.Send d i k) = BeginsWrite p c i h × (k ≡ sends_of c h + 1)
OperationSays p c h (op.SendFault d i) = BeginsWrite p c i h
OperationSays p c h (op.Read d i stamp) = (r : BeginsRead p c i h) × (stamp ≡ stamp_of (path_asked r.query) h)
OperationSays p c h (op.ReadFault d i) = BeginsRead p c i h
OperationSays p c h (op.Local d i) = (b : Begins p c i h) × ((b.ask.want ≡ Unfit) ⊎ ((client_of p c h).closed ≡ true))
OperationSays p c h _ = Unit {0}

-- Each operation of a client says so.
abbrev pub ClientOperationsSay : Type 0
ClientOperationsSay = (p : Plan) (c : ℕ) (e : Entry) (h : List Entry) → IsHistory p (e ∷ h) → client_in e.op ≡ Some c → OperationSays p c h e.op

-- Nothing, or an operation of client c that doesn't fail.
abbrev pub IsTurnOf : ℕ → Op → Type 0
IsTurnOf c op.Idle = Unit {0}
IsTurnOf c (op.Pong d ping) = d ≡ c
IsTurnOf c (op.TakeDone d k t) = d ≡ c
IsTurnOf c (op.TakeEvicted d k t) = d ≡ c
IsTurnOf c (op.TakeRefused d k) = d ≡ c
IsTurnOf c (op.TakeLost d k) = d ≡ c
IsTurnOf c (op.TakeWatch d watch) = d ≡ c
IsTurnOf c (op.TakePing d ping) = d ≡ c
IsTurnOf c (op.LookOk d i mark) = d ≡ c
IsTurnOf c (op.LookBehind d i mark) = d ≡ c
IsTurnOf c (op.LookHeld d i mark watch) = d ≡ c
IsTurnOf c (op.Send d i k) = d ≡ c
IsTurnOf c (op.Read d i stamp) = d ≡ c
IsTurnOf c (op.WatchSet d i watch) = d ≡ c
IsTurnOf c (op.WatchSwept d i t) = d ≡ c
IsTurnOf c (op.Local d i) = d ≡ c
IsTurnOf c _ = ⊥
