-- The client: the operation that it makes next, and what it holds after it. The rules read a sight and what the client
-- holds, and don't ask how it keeps a command that it sent.
use Rattle.std.specs.Prelude.{ℕ, ◌+◌, ◌==◌, nat_lt, Bool, true, false, if◌then◌else◌, ◌&&◌, ◌||◌, not, List, [], ◌∷◌, ◌++◌, Option, Some, None, is_some, max}
use Rattle.fk_base.specs.Path.{PathNames}
use Rattle.fk_base.specs.declared.code.Code.{Code}
use Rattle.fk_base.specs.declared.code.Code.TheVariants as code
use Rattle.fk_tree.specs.Ask.{path_asked}
use Rattle.fk_tree.specs.Watch.{kind_asked}
use Rattle.fk_tree.specs.declared.change.Kind.{Kind}
use Rattle.fk_tree.specs.declared.node.Node.{Node}
use Rattle.fk_tree.specs.declared.request.Query.TheVariants as query
use Rattle.fk_print.specs.declared.entry.Entry.{Entry}
use Rattle.fk_print.specs.declared.line.Verb.{Verb}
use Rattle.fk_print.specs.declared.line.Verb.TheVariants as verb
use Rattle.fk_print.specs.declared.op.Op.{Op}
use Rattle.fk_print.specs.declared.op.Op.TheVariants as op
use Rattle.fk_spec.specs.Plan.{Plan, Ask, Want, Unfit, Writes, Reads, nth}
use Rattle.fk_spec.specs.Settling.{Outcome, Committed, Refused, Passed}
use Rattle.fk_spec.specs.Lanes.{Message, Done, Evicted, Kept, Watch, Ping}
use Rattle.fk_spec.specs.Sight.{Sight, sight_of}

-- What a client knows of a command that it sent or refused itself: nothing yet, its outcome, a code that
-- speaks of no number, or that its session is closed, at the number that the client had seen.
pub data Result : Type 0 where
  Open : Result
  Settled : (outcome : Outcome) → Result
  Plain : (code : Code) → Result
  Expired : (at : ℕ) → Result

-- a command that was sent or refused and isn't answered: its place among the commands, and its
-- message's number where it was sent
pub record Sent : Type 0 where
  pub command : ℕ
  pub k : ℕ
  pub result : Result

-- a read that was made and isn't answered: the node that it found or none, its record's stamp, and
-- whether the client looked since, so that it waits for its registration
pub record Reading : Type 0 where
  pub node : Option Node
  pub stamp : ℕ
  pub looked : Bool

-- A client: how many commands it began, those that it sent and didn't answer, in order, the watches that
-- it holds, the pings that it owes an answer, its read, and whether it knows that its session is closed.
-- `S` is how it keeps a command that it sent.
pub record Client (S : Type 0) : Type 0 where
  pub begun : ℕ
  pub sent : List S
  pub held : List ℕ
  pub owed : List ℕ
  pub reading : Option Reading
  pub closed : Bool

abbrev pub fresh_client : {S : Type 0} → Client S
fresh_client = record { begun = 0; sent = []; held = []; owed = []; reading = None; closed = false }

-- How a client keeps a command that it sent or refused itself: its place among the commands, whether it was sent
-- under this number and nothing is known of it, the number of the tree that its line needs a look for, and whether its
-- line is printed at once. A command is kept under a number, or 0, with what is known of it, and with what it is told, `R`.
pub record Keeping (S R : Type 0) : Type 0 where
  pub command : S → ℕ
  pub awaits : ℕ → S → Bool
  pub number : S → Option ℕ
  pub is_ready : S → Bool
  pub kept : (command k : ℕ) → Result → S
  pub told : R → S → S

-- ---- what is known of a command

abbrev pub is_open : Result → Bool
is_open Open = true
is_open _ = false

-- a line at a number of the tree needs a look first; the others don't
abbrev pub number_looked_for : Result → Option ℕ
number_looked_for (Settled (Committed tx)) = Some tx
number_looked_for (Settled (Refused code place at)) = Some at
number_looked_for _ = None

-- what is printed at once when it stands first
abbrev pub is_ready : Result → Bool
is_ready (Plain code) = true
is_ready (Expired at) = true
is_ready (Settled (Passed loss)) = true
is_ready _ = false

-- a client as the rules have it keeps a command by its result
abbrev pub by_result : Keeping Sent Result
by_result = record {
  command = λ s. s.command;
  awaits = λ k s. (s.k == k) && is_open s.result;
  number = λ s. number_looked_for s.result;
  is_ready = λ s. is_ready s.result;
  kept = λ command k r. record { command = command; k = k; result = r };
  told = λ r s. record s { result = r };
}

-- what is told first stays
abbrev pub with_told : {S R : Type 0} → Keeping S R → ℕ → R → List S → List S
with_told keep k r [] = []
with_told keep k r (s ∷ ss) = if keep.awaits k s then keep.told r s ∷ ss else s ∷ with_told keep k r ss

abbrev pub without_ready : {S R : Type 0} → Keeping S R → List S → List S
without_ready keep [] = []
without_ready keep (s ∷ ss) = if keep.is_ready s then without_ready keep ss else s ∷ ss

abbrev pub ready_first : {S R : Type 0} → Keeping S R → List S → List S
ready_first keep [] = []
ready_first keep (s ∷ ss) = if keep.is_ready s then s ∷ ready_first keep ss else []

-- ---- what a command asks

-- what the next command asks
abbrev pub next_asked : {S : Type 0} → List Ask → Client S → Option Ask
next_asked asks x = nth asks (x.begun + 1)

abbrev pub is_unfit_want : Want → Bool
is_unfit_want Unfit = true
is_unfit_want (Writes r) = false
is_unfit_want (Reads q watch) = false

abbrev pub is_unfit : Option Ask → Bool
is_unfit None = false
is_unfit (Some a) = is_unfit_want a.want

-- whether a read sets a watch: with -w where the node is there, and a stat on a missing node too
abbrev pub sets_watch : Want → Option Node → Bool
sets_watch (Reads (query.Stat path) watch) found = watch
sets_watch (Reads q watch) found = watch && is_some found
sets_watch _ found = false

abbrev pub registers : Option Ask → Option Node → Bool
registers None found = false
registers (Some a) found = sets_watch a.want found

abbrev pub is_close_verb : Verb → Bool
is_close_verb verb.Close = true
is_close_verb _ = false

abbrev pub is_close : Option Ask → Bool
is_close None = false
is_close (Some a) = is_close_verb a.verb

abbrev pub path_wanted : Want → PathNames
path_wanted (Reads q watch) = path_asked q
path_wanted _ = []

abbrev pub path_read : Option Ask → PathNames
path_read None = []
path_read (Some a) = path_wanted a.want

abbrev pub is_write : Verb → Bool
is_write verb.Get = false
is_write verb.Stat = false
is_write verb.Ls = false
is_write _ = true

-- ---- what a client looks for

-- what a client looks for before it prints: a command's line, and its number of the tree
pub record Target : Type 0 where
  pub command : ℕ
  pub number : ℕ

-- the number looked for before a read is printed
abbrev pub number_read : ℕ → Reading → ℕ
number_read seen r = max seen r.stamp

abbrev pub target_with : ℕ → Option ℕ → Option Target
target_with command None = None
target_with command (Some number) = Some (record { command = command; number = number })

abbrev pub target_sent : {S R : Type 0} → Keeping S R → List S → Option Target
target_sent keep [] = None
target_sent keep (s ∷ ss) = target_with (keep.command s) (keep.number s)

-- a read is looked at before it is printed; so is the first reply that needs it
abbrev pub target_of : {S R : Type 0} → Keeping S R → ℕ → Client S → Option Reading → Option Target
target_of keep seen x None = target_sent keep x.sent
target_of keep seen x (Some r) = if r.looked then target_sent keep x.sent else Some (record { command = x.begun + 1; number = number_read seen r })

-- ---- what a client does next

abbrev pub pong_or : ℕ → List ℕ → Op → Op
pong_or c [] o = o
pong_or c (ping ∷ pings) o = op.Pong c ping

abbrev pub take_op : ℕ → Message → Op
take_op c (Done k tx) = op.TakeDone c k tx
take_op c (Evicted k tx) = op.TakeEvicted c k tx
take_op c (Kept k (Passed loss)) = op.TakeLost c k
take_op c (Kept k outcome) = op.TakeRefused c k
take_op c (Watch watch) = op.TakeWatch c watch
take_op c (Ping ping) = op.TakePing c ping

abbrev pub take_or : ℕ → Option Message → Op → Op
take_or c None o = o
take_or c (Some m) o = take_op c m

abbrev pub contains : ℕ → List ℕ → Bool
contains id [] = false
contains id (x ∷ xs) = (x == id) || contains id xs

-- the first of these numbers that the client holds
abbrev pub first_held : List ℕ → List ℕ → Option ℕ
first_held [] held = None
first_held (id ∷ ids) held = if contains id held then Some id else first_held ids held

abbrev pub held_op : ℕ → ℕ → ℕ → Option ℕ → Op
held_op c command mark None = op.LookOk c command mark
held_op c command mark (Some id) = op.LookHeld c command mark id

-- A look waits until the mark has come to the number, and until no watch of the epoch is one that the
-- client holds.
abbrev pub look_op : Sight → List ℕ → Target → Op
look_op s held t = if nat_lt s.mark t.number then op.LookBehind s.session t.command s.mark else held_op s.session t.command s.mark (first_held s.epoch held)

abbrev pub look_or : Sight → List ℕ → Option Target → Op → Op
look_or s held None o = o
look_or s held (Some t) o = look_op s held t

-- A registration for a read at a number fails where a sweep beyond it touched the path.
abbrev pub register_op : Sight → ℕ → ℕ → PathNames → Kind → Op
register_op s command number path kind = if nat_lt number (s.sweep path) then op.WatchSwept s.session command (s.sweep path) else op.WatchSet s.session command (s.watch path kind)

-- only a read is registered, so the first two don't come
abbrev pub register_for : Sight → ℕ → ℕ → Want → Op
register_for s command number Unfit = op.Idle
register_for s command number (Writes r) = op.Idle
register_for s command number (Reads q watch) = register_op s command number (path_asked q) (kind_asked q)

abbrev pub register_asked : Sight → ℕ → ℕ → Option Ask → Op
register_asked s command number None = op.Idle
register_asked s command number (Some a) = register_for s command number a.want

-- a read that waits for its registration
abbrev pub watch_or : {S : Type 0} → Sight → Client S → Option Reading → Op → Op
watch_or s x None o = o
watch_or s x (Some r) o = register_asked s (x.begun + 1) (number_read s.seen r) (next_asked s.asks x)

-- a command that isn't there has to be waited for; none such is sent
abbrev pub goes_on : Option Ask → Bool
goes_on None = false
goes_on (Some a) = not a.wait

-- whether none of these has to be waited for
abbrev pub all_go_on : {S R : Type 0} → Keeping S R → List Ask → List S → Bool
all_go_on keep asks [] = true
all_go_on keep asks (s ∷ ss) = goes_on (nth asks (keep.command s)) && all_go_on keep asks ss

abbrev pub is_none_sent : {S : Type 0} → List S → Bool
is_none_sent [] = true
is_none_sent (s ∷ ss) = false

-- A command may begin where none is unanswered; a write also where none of those has to be waited for.
abbrev pub may_begin : {S R : Type 0} → Keeping S R → List Ask → Ask → List S → Bool
may_begin keep asks a ss = if is_write a.verb then all_go_on keep asks ss else is_none_sent ss

abbrev pub local_if : Bool → ℕ → ℕ → Op → Op
local_if closed c command o = if closed then op.Local c command else o

-- an unfit command, and any command once the session is known as closed, is refused by the client
abbrev pub begin_op : Sight → ℕ → Bool → Want → Op
begin_op s command closed Unfit = op.Local s.session command
begin_op s command closed (Writes r) = local_if closed s.session command (op.Send s.session command s.next)
begin_op s command closed (Reads q watch) = local_if closed s.session command (op.Read s.session command (s.stamp (path_asked q)))

abbrev pub begin_asked : {S R : Type 0} → Keeping S R → Sight → Client S → Option Ask → Op
begin_asked keep s x None = op.Idle
begin_asked keep s x (Some a) = if may_begin keep s.asks a x.sent then begin_op s (x.begun + 1) x.closed a.want else op.Idle

-- The operation that a client makes, the first of these that applies: it answers a ping, takes a message,
-- looks before it prints, registers a watch, or begins its next command.
abbrev pub op_of_client : {S R : Type 0} → Keeping S R → Sight → Client S → Op
op_of_client keep s x = pong_or s.session x.owed (take_or s.session s.head (look_or s x.held (target_of keep s.seen x x.reading) (watch_or s x x.reading (begin_asked keep s x (next_asked s.asks x)))))

-- The same operation where its service fails. A client's own refusal uses no service.
abbrev pub failed_op : Op → Op
failed_op (op.Pong session ping) = op.PongFault session
failed_op (op.TakeDone session k tx) = op.TakeFault session
failed_op (op.TakeEvicted session k tx) = op.TakeFault session
failed_op (op.TakeRefused session k) = op.TakeFault session
failed_op (op.TakeLost session k) = op.TakeFault session
failed_op (op.TakeWatch session watch) = op.TakeFault session
failed_op (op.TakePing session ping) = op.TakeFault session
failed_op (op.LookOk session command mark) = op.LookFault session command
failed_op (op.LookBehind session command mark) = op.LookFault session command
failed_op (op.LookHeld session command mark watch) = op.LookFault session command
failed_op (op.Send session command k) = op.SendFault session command
failed_op (op.Read session command stamp) = op.ReadFault session command
failed_op (op.WatchSet session command watch) = op.WatchFault session command
failed_op (op.WatchSwept session command tx) = op.WatchFault session command
failed_op o = o

-- ---- what becomes of a client

-- it keeps a command more, which it began
abbrev pub joined : {S : Type 0} → ℕ → S → Client S → Client S
joined command s x = record x { begun = command; sent = x.sent ++ s ∷ [] }

abbrev pub begin_with : {S R : Type 0} → Keeping S R → ℕ → ℕ → Result → Client S → Client S
begin_with keep command k r x = joined command (keep.kept command k r) x

-- a read that isn't answered is given up, and will be made again
abbrev pub without_reading : {S : Type 0} → Client S → Client S
without_reading x = record x { reading = None }

-- what it is told of the command that was sent under this number
abbrev pub settle_with : {S R : Type 0} → Keeping S R → ℕ → Option R → Client S → Client S
settle_with keep k None x = without_reading x
settle_with keep k (Some r) x = record x { sent = with_told keep k r x.sent; reading = None }

abbrev pub without : ℕ → List ℕ → List ℕ
without id [] = []
without id (x ∷ xs) = if x == id then without id xs else x ∷ without id xs

abbrev pub with_held : ℕ → List ℕ → List ℕ
with_held id held = if contains id held then held else held ++ id ∷ []

-- its session was evicted
abbrev pub evicted : {S : Type 0} → Client S → Client S
evicted x = record x { held = []; reading = None; closed = true }

-- a watch fired
abbrev pub notified : {S : Type 0} → ℕ → Client S → Client S
notified watch x = record x { held = without watch x.held; reading = None }

-- a client that knows that its session is closed answers no ping
abbrev pub pinged : {S : Type 0} → ℕ → Client S → Client S
pinged ping x = record x { owed = if x.closed then x.owed else x.owed ++ ping ∷ []; reading = None }

-- the client itself refuses an unfit command, and any command once its session is closed
abbrev pub local_result : Bool → ℕ → Result
local_result unfit seen = if unfit then Plain code.BadArguments else Expired seen

-- it holds a watch more
abbrev pub keeping : {S : Type 0} → ℕ → Client S → Client S
keeping watch x = record x { held = with_held watch x.held }

-- the client is done with its present command
abbrev pub answered : {S : Type 0} → Client S → Client S
answered x = record x { begun = x.begun + 1; reading = None }

abbrev pub close_if : {S : Type 0} → Bool → Client S → Client S
close_if closes x = if closes then record x { held = []; closed = true } else x

-- the reply that was looked for is printed; an answered close makes the session known as closed
abbrev pub looked_for : {S R : Type 0} → Keeping S R → List Ask → List S → Client S → Client S
looked_for keep asks [] x = x
looked_for keep asks (s ∷ ss) x = close_if (is_close (nth asks (keep.command s))) (record x { sent = ss })

-- a read that was looked at is answered, or waits for its registration
abbrev pub looked_at : {S : Type 0} → Bool → Reading → Client S → Client S
looked_at registers r x = if registers then record x { reading = Some (record r { looked = true }) } else answered x

abbrev pub looked : {S R : Type 0} → Keeping S R → List Ask → Option Reading → Client S → Client S
looked keep asks None x = looked_for keep asks x.sent x
looked keep asks (Some r) x = looked_at (registers (next_asked asks x) r.node) r x

-- a read of a command that asks this: what its path shows
abbrev pub read_by : Sight → Option Ask → ℕ → Reading
read_by s a stamp = record { node = s.node (path_read a); stamp = stamp; looked = false }

-- The client after one of its operations, before it prints what is ready. `told` is what the message that
-- it takes tells of a command. A take gives up a read that isn't answered.
abbrev pub acted : {S R : Type 0} → Keeping S R → Sight → Option R → Op → Client S → Client S
acted keep s told (op.Pong session ping) x = record x { owed = without ping x.owed }
acted keep s told (op.TakeDone session k tx) x = settle_with keep k told x
acted keep s told (op.TakeRefused session k) x = settle_with keep k told x
acted keep s told (op.TakeLost session k) x = settle_with keep k told x
acted keep s told (op.TakeEvicted session k tx) x = evicted x
acted keep s told (op.TakeWatch session watch) x = notified watch x
acted keep s told (op.TakePing session ping) x = pinged ping x
acted keep s told (op.LookOk session command mark) x = looked keep s.asks x.reading x
acted keep s told (op.WatchSet session command watch) x = answered (keeping watch x)
acted keep s told (op.WatchSwept session command tx) x = without_reading x
acted keep s told (op.Local session command) x = begin_with keep command 0 (local_result (is_unfit (nth s.asks command)) s.seen) x
acted keep s told (op.Send session command k) x = begin_with keep command k Open x
acted keep s told (op.SendFault session command) x = begin_with keep command 0 (Plain code.ConnectionLoss) x
acted keep s told (op.Read session command stamp) x = record x { reading = Some (read_by s (nth s.asks command) stamp) }
acted keep s told (op.ReadFault session command) x = answered x
acted keep s told (op.WatchFault session command) x = answered x
acted keep s told _ x = x

-- what is ready is printed, and leaves the list
abbrev pub flushed : {S R : Type 0} → Keeping S R → Client S → Client S
flushed keep x = record x { sent = without_ready keep x.sent }

-- ---- the clients of a history

-- the outcome that a follower kept, which the message at the head of an inbox tells
abbrev pub kept_outcome : Option Message → Option Outcome
kept_outcome (Some (Kept k o)) = Some o
kept_outcome _ = None

abbrev pub settled_as : Option Outcome → Option Result
settled_as None = None
settled_as (Some o) = Some (Settled o)

-- what an operation that takes this message tells of a command
abbrev pub result_told : Option Message → Op → Option Result
result_told head (op.TakeDone session k tx) = Some (Settled (Committed tx))
result_told head _ = settled_as (kept_outcome head)

abbrev pub acted_by : Sight → Op → Client Sent → Client Sent
acted_by s o x = acted by_result s (result_told s.head o) o x

-- the client whose operation this line is
abbrev pub client_in : Op → Option ℕ
client_in (op.Pong session ping) = Some session
client_in (op.TakeDone session k tx) = Some session
client_in (op.TakeEvicted session k tx) = Some session
client_in (op.TakeRefused session k) = Some session
client_in (op.TakeLost session k) = Some session
client_in (op.TakeWatch session watch) = Some session
client_in (op.TakePing session ping) = Some session
client_in (op.LookOk session command mark) = Some session
client_in (op.LookBehind session command mark) = Some session
client_in (op.LookHeld session command mark watch) = Some session
client_in (op.Send session command k) = Some session
client_in (op.Read session command stamp) = Some session
client_in (op.WatchSet session command watch) = Some session
client_in (op.WatchSwept session command tx) = Some session
client_in (op.Local session command) = Some session
client_in (op.PongFault session) = Some session
client_in (op.TakeFault session) = Some session
client_in (op.LookFault session command) = Some session
client_in (op.SendFault session command) = Some session
client_in (op.ReadFault session command) = Some session
client_in (op.WatchFault session command) = Some session
client_in _ = None

abbrev pub client_by : Sight → Option ℕ → Op → Client Sent → Client Sent
client_by s None o x = x
client_by s (Some c) o x = if c == s.session then flushed by_result (acted_by s o x) else x

-- what client c holds
abbrev pub client_of : Plan → ℕ → List Entry → Client Sent
client_of p c [] = fresh_client
client_of p c (e ∷ h) = client_by (sight_of p c h) (client_in e.op) e.op (client_of p c h)

-- the operation that client c makes
abbrev pub client_op : Plan → ℕ → List Entry → Op
client_op p c h = op_of_client by_result (sight_of p c h) (client_of p c h)
