-- What a history promises, said on its public lines.
use Rattle.std.specs.Prelude.{◌≡◌, ℕ, ◌-◌, ◌==◌, nat_le, nat_lt, Bool, true, false, if◌then◌else◌, List, [], ◌∷◌, Option, Some, None}
use Rattle.fk_base.specs.declared.code.Code.TheVariants as code
use Rattle.fk_tree.specs.Apply.{reply_of}
use Rattle.fk_tree.specs.Ask.{ask}
use Rattle.fk_tree.specs.Check.{check}
use Rattle.fk_tree.specs.declared.applied.Applied.{Applied}
use Rattle.fk_tree.specs.declared.request.Query.{Query}
use Rattle.fk_print.specs.declared.entry.Entry.{Entry}
use Rattle.fk_print.specs.declared.line.Line.{Line}
use Rattle.fk_print.specs.declared.line.Line.TheVariants as line
use Rattle.fk_print.specs.declared.line.Printed.{Printed}
use Rattle.fk_print.specs.declared.line.Shown.{Shown}
use Rattle.fk_print.specs.declared.line.Shown.TheVariants as shown
use Rattle.fk_print.specs.declared.line.Verb.{Verb}
use Rattle.fk_print.specs.declared.op.Op.{Op}
use Rattle.fk_print.specs.declared.op.Op.TheVariants as op
use Rattle.fk_spec.specs.Plan.{Plan, Ask, Want, Reads, asked}
use Rattle.fk_spec.specs.Shown.{shown_number}
use Rattle.fk_spec.specs.Start.{or_else}
use Rattle.fk_spec.specs.Client.{is_write}
use Rattle.fk_spec.specs.Replies.{shown_answer, shown_reply}
use Rattle.fk_spec.specs.Next.{printed_of}
use Rattle.fk_spec.specs.PublicLines.{Each, greatest_request, greatest_tx, last_notice, lines_of, seen_before, txs_among, txs_of}
use Rattle.fk_spec.specs.Published.{published_as, published_view}
use Rattle.fk_spec.specs.Holding.{Holding, Fired, firing_among, held_at, held_by, passes_none}

-- Each request once. -----------------------------------------------------------------------------

-- a line shows its push as it is applied to the tree before it, and the request passes there
abbrev pub ShowsApplied : List Entry → Printed → Option Applied → Type 0
ShowsApplied h x None = ⊥
ShowsApplied h x (Some a) = (x ≡ printed_of a) × (check (published_view h (x.tx - 1)) a.session a.request ≡ None)

-- A transaction line has a greater number than each line before it, and a greater request than each of
-- its session; it is its push, applied to the tree of the lines before it.
pub record TxFits (p : Plan) (h : List Entry) (x : Printed) (before : List Printed) : Type 0 where
  pub rises : nat_lt (greatest_tx before) x.tx ≡ true
  pub in_order : nat_lt (greatest_request x.session before) x.k ≡ true
  pub applied : ShowsApplied h x (published_as p x.tx h)

abbrev pub TxsFit : Plan → List Entry → List Printed → Type 0
TxsFit p h [] = Unit {0}
TxsFit p h (x ∷ xs) = TxFits p h x xs × TxsFit p h xs

-- Transaction numbers rise, each request stands in one line at most and each client's in its order, and
-- each line is its push, applied to the tree of the lines before it.
abbrev pub PublishesOnce : Plan → List Entry → Type 0
PublishesOnce p h = TxsFit p h (txs_of h)

-- Replies fit the tree. ---------------------------------------------------------------------------

abbrev pub is_earlier : ℕ → ℕ → Line → Bool
is_earlier c i (line.Reply session command verb shown) = if session == c then nat_lt command i else true
is_earlier c i _ = true

-- whether each of these replies of client c is to a command before command i
abbrev pub all_earlier : ℕ → ℕ → List Line → Bool
all_earlier c i [] = true
all_earlier c i (l ∷ ls) = if is_earlier c i l then all_earlier c i ls else false

abbrev pub sent_as_in : ℕ → ℕ → Op → Option ℕ
sent_as_in c i (op.Send session command k) = if session == c then (if command == i then Some k else None) else None
sent_as_in c i _ = None

-- the number under which command i of client c was sent
abbrev pub sent_as : ℕ → ℕ → List Entry → Option ℕ
sent_as c i [] = None
sent_as c i (e ∷ h) = or_else (sent_as_in c i e.op) (sent_as c i h)

abbrev pub is_tx_for : ℕ → ℕ → Printed → Bool
is_tx_for c k x = if x.session == c then x.k == k else false

-- the transaction line of request k of client c
abbrev pub tx_for : ℕ → ℕ → List Printed → Option Printed
tx_for c k [] = None
tx_for c k (x ∷ xs) = if is_tx_for c k x then Some x else tx_for c k xs

abbrev pub own_tx : ℕ → Option ℕ → List Printed → Option Printed
own_tx c None xs = None
own_tx c (Some k) xs = tx_for c k xs

-- the transaction line of command i of client c among these
abbrev pub tx_of_command : ℕ → ℕ → List Entry → List Printed → Option Printed
tx_of_command c i h xs = own_tx c (sent_as c i h) xs

abbrev pub ShowsReply : Shown → ℕ → Option Applied → Type 0
ShowsReply s tx None = ⊥
ShowsReply s tx (Some a) = s ≡ shown_reply tx (reply_of a)

abbrev pub ShowsOwn : Plan → List Entry → Shown → Option Printed → Type 0
ShowsOwn p h s None = ⊥
ShowsOwn p h s (Some x) = ShowsReply s x.tx (published_as p x.tx h)

-- An ok line of a write shows the tree's reply at its own transaction line, which stands before it; a
-- write with another line has no transaction line in the whole history.
abbrev pub WriteShows : Plan → List Entry → List Line → ℕ → ℕ → Shown → Type 0
WriteShows p h before c i (shown.Refused code at place) = tx_of_command c i h (txs_of h) ≡ None
WriteShows p h before c i (shown.Plain code) = tx_of_command c i h (txs_of h) ≡ None
WriteShows p h before c i (shown.Lost path own found moment) = tx_of_command c i h (txs_of h) ≡ None
WriteShows p h before c i s = ShowsOwn p h s (tx_of_command c i h (txs_among before))

-- the answer to a query from the tree of its number, which isn't beyond the transaction lines before it
abbrev pub AnswersAt : List Entry → List Line → Query → Shown → Option ℕ → Type 0
AnswersAt h before q s None = ⊥
AnswersAt h before q s (Some n) = (s ≡ shown_answer n (ask (published_view h n) q)) × (nat_le n (greatest_tx (txs_among before)) ≡ true)

-- A read shows the answer of the tree of its number; one that is refused for its closed session, or with
-- a code that speaks of no number, shows none.
abbrev pub ReadShows : List Entry → List Line → Query → Shown → Type 0
ReadShows h before q (shown.Refused code.SessionExpired at place) = nat_le at (greatest_tx (txs_among before)) ≡ true
ReadShows h before q (shown.Plain code) = Unit {0}
ReadShows h before q s = AnswersAt h before q s (shown_number s)

abbrev pub WantShows : Plan → List Entry → List Line → ℕ → ℕ → Shown → Want → Type 0
WantShows p h before c i s (Reads q watch) = ReadShows h before q s
WantShows p h before c i s _ = WriteShows p h before c i s

-- the reply is to a command of the deployment, by its own verb, and shows what came of it
abbrev pub AskShows : Plan → List Entry → List Line → ℕ → ℕ → Verb → Shown → Option Ask → Type 0
AskShows p h before c i verb s None = ⊥
AskShows p h before c i verb s (Some a) = (verb ≡ a.verb) × WantShows p h before c i s a.want

abbrev pub ReplyFits : Plan → List Entry → Line → List Line → Type 0
ReplyFits p h (line.Reply session command verb shown) before =
    (all_earlier session command before ≡ true) × AskShows p h before session command verb shown (asked p session command)
ReplyFits p h _ before = Unit {0}

-- Each client's replies are in the order of its commands, one for each at most, and each fits the tree.
abbrev pub RepliesFit : Plan → List Entry → Type 0
RepliesFit p h = Each (ReplyFits p h) (lines_of h)

-- No view goes back. ------------------------------------------------------------------------------

abbrev pub reads_at : Verb → Shown → Option ℕ
reads_at verb s = if is_write verb then None else shown_number s

abbrev pub IsAtLeast : ℕ → Option ℕ → Type 0
IsAtLeast seen None = Unit {0}
IsAtLeast seen (Some n) = nat_le seen n ≡ true

abbrev pub ViewKept : Line → List Line → Type 0
ViewKept (line.Reply session command verb shown) before = IsAtLeast (seen_before session before) (reads_at verb shown)
ViewKept _ before = Unit {0}

-- A read's number is at least each number that its client was shown before.
abbrev pub ViewNeverFalls : List Entry → Type 0
ViewNeverFalls h = Each ViewKept (lines_of h)

-- Notifications fit the watches. ------------------------------------------------------------------

abbrev pub FiresAs : Option Holding → List Printed → Fired → Type 0
FiresAs None xs f = ⊥
FiresAs (Some w) xs f = firing_among w xs ≡ Some f

abbrev pub NoticeFits : Plan → Line → List Line → Type 0
NoticeFits p (line.Notice session tx kind change path) before =
    FiresAs (held_at path kind (held_by p session before)) (txs_among before) (record { tx = tx; change = change }) × (nat_le (last_notice session before) tx ≡ true)
NoticeFits p _ before = Unit {0}

-- Each notification is of a watch that its client holds and that has fired, at that transaction and with
-- that change; a client's notifications are in the order of the transactions.
abbrev pub NotificationsFit : Plan → List Entry → Type 0
NotificationsFit p h = Each (NoticeFits p) (lines_of h)

-- No read passes a fired watch. -------------------------------------------------------------------

-- the number up to which a reply shows the tree: an answer to a read, or an ok write
abbrev pub passes_to : Verb → Shown → Option ℕ
passes_to verb (shown.Refused code.NoNode at place) = if is_write verb then None else Some at
passes_to verb (shown.Refused code at place) = None
passes_to verb s = shown_number s

abbrev pub PassesNone : List Printed → List Holding → Option ℕ → Type 0
PassesNone xs ws None = Unit {0}
PassesNone xs ws (Some n) = passes_none n xs ws ≡ true

abbrev pub WatchesKept : Plan → Line → List Line → Type 0
WatchesKept p (line.Reply session command verb shown) before = PassesNone (txs_among before) (held_by p session before) (passes_to verb shown)
WatchesKept p _ before = Unit {0}

-- At each answer to a read and each ok reply to a write, its client holds no watch that has fired at its
-- number or below.
abbrev pub NoReadPassesAWatch : Plan → List Entry → Type 0
NoReadPassesAWatch p h = Each (WatchesKept p) (lines_of h)
