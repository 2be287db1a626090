-- What a client prints: its replies, and what it is told of its watches and its session.
use Rattle.std.specs.Prelude.{ℕ, ◌+◌, Bool, if◌then◌else◌, List, [], ◌∷◌, ◌++◌, Option, Some, None}
use Rattle.fk_base.specs.declared.code.Code.TheVariants as code
use Rattle.fk_tree.specs.Apply.{reply_of}
use Rattle.fk_tree.specs.Ask.{answer_from}
use Rattle.fk_tree.specs.declared.applied.Applied.{Applied}
use Rattle.fk_tree.specs.declared.node.Node.{Node}
use Rattle.fk_tree.specs.declared.reply.Answer.{Answer}
use Rattle.fk_tree.specs.declared.reply.Answer.TheVariants as answer
use Rattle.fk_tree.specs.declared.reply.Reply.{Reply}
use Rattle.fk_tree.specs.declared.reply.Reply.TheVariants as reply
use Rattle.fk_print.specs.declared.entry.Entry.{Entry}
use Rattle.fk_print.specs.declared.line.Line.{Line}
use Rattle.fk_print.specs.declared.line.Line.TheVariants as line
use Rattle.fk_print.specs.declared.line.Shown.{Shown}
use Rattle.fk_print.specs.declared.line.Shown.TheVariants as shown
use Rattle.fk_print.specs.declared.line.Verb.{Verb}
use Rattle.fk_print.specs.declared.line.Verb.TheVariants as verb
use Rattle.fk_print.specs.declared.op.Op.{Op}
use Rattle.fk_print.specs.declared.op.Op.TheVariants as op
use Rattle.fk_spec.specs.Plan.{Plan, Ask, Want, Unfit, Writes, Reads, asks_in, nth}
use Rattle.fk_spec.specs.Locks.{Loss}
use Rattle.fk_spec.specs.Settling.{Committed, Refused, Passed}
use Rattle.fk_spec.specs.Stored.{committed_as}
use Rattle.fk_spec.specs.Watches.{Firing}
use Rattle.fk_spec.specs.Sight.{Sight, sight_of}
use Rattle.fk_spec.specs.Client.{Client, Reading, Sent, Result, Open, Settled, Plain, Expired, acted_by, by_result, client_of, contains, next_asked, number_read, ready_first, registers}

abbrev pub shown_reply : ℕ → Reply → Shown
shown_reply tx (reply.Created path) = shown.Created tx path
shown_reply tx (reply.Version version) = shown.Version tx version
shown_reply tx reply.Deleted = shown.Done tx
shown_reply tx reply.Closed = shown.Done tx
shown_reply tx (reply.Multi replies) = shown.Multi tx replies

abbrev pub shown_applied : ℕ → Option Applied → Shown
shown_applied tx None = shown.Done tx
shown_applied tx (Some a) = shown_reply tx (reply_of a)

abbrev pub shown_loss : Option Loss → Shown
shown_loss None = shown.Plain code.SystemError
shown_loss (Some l) = shown.Lost l.path l.own l.found l.moment

-- What the reply to a command shows, where a commit shows this. None is printed of an open one.
abbrev pub shown_as : (ℕ → Shown) → Result → Shown
shown_as commit (Settled (Committed tx)) = commit tx
shown_as commit (Settled (Refused code place at)) = shown.Refused code at place
shown_as commit (Settled (Passed loss)) = shown_loss loss
shown_as commit (Plain code) = shown.Plain code
shown_as commit (Expired at) = shown.Refused code.SessionExpired at 0
shown_as commit Open = shown.Plain code.SystemError

abbrev pub verb_asked : Option Ask → Verb
verb_asked None = verb.Create
verb_asked (Some a) = a.verb

-- the reply to a command of client c, whose commands ask this
abbrev pub line_for : ℕ → List Ask → ℕ → Shown → Line
line_for c asks command s = line.Reply c command (verb_asked (nth asks command)) s

-- How a client words its replies: its session, what its commands ask, and of a command that it keeps as `S` the
-- place, and what the reply shows.
pub record Wording (S : Type 0) : Type 0 where
  pub session : ℕ
  pub asks : List Ask
  pub command : S → ℕ
  pub shows : S → Shown

abbrev pub reply_line : {S : Type 0} → Wording S → S → Line
reply_line w s = line_for w.session w.asks (w.command s) (w.shows s)

abbrev pub reply_lines : {S : Type 0} → Wording S → List S → List Line
reply_lines w [] = []
reply_lines w (s ∷ ss) = reply_line w s ∷ reply_lines w ss

abbrev pub first_line : {S : Type 0} → Wording S → List S → List Line
first_line w [] = []
first_line w (s ∷ ss) = reply_line w s ∷ []

-- an answer from the tree of number n
abbrev pub shown_answer : ℕ → Answer → Shown
shown_answer n (answer.Got bytes stat) = shown.Got n bytes stat
shown_answer n (answer.Stated stat) = shown.Stated n stat
shown_answer n (answer.Listed names) = shown.Listed n names
shown_answer n answer.NoNode = shown.Refused code.NoNode n 0

-- only what asks for an answer is read, so the first two don't come
abbrev pub shown_read : ℕ → Option Node → Want → Shown
shown_read n found Unfit = shown.Plain code.SystemError
shown_read n found (Writes r) = shown.Plain code.SystemError
shown_read n found (Reads q watch) = shown_answer n (answer_from q found)

abbrev pub shown_asked : ℕ → Option Node → Option Ask → Shown
shown_asked n found None = shown.Plain code.SystemError
shown_asked n found (Some a) = shown_read n found a.want

-- the answer to a read: what its record showed, at the number that was looked for
abbrev pub read_line : ℕ → List Ask → ℕ → ℕ → Reading → Line
read_line c asks seen command r = line_for c asks command (shown_asked (number_read seen r) r.node (nth asks command))

abbrev pub read_lines : ℕ → List Ask → ℕ → ℕ → Option Reading → List Line
read_lines c asks seen command None = []
read_lines c asks seen command (Some r) = read_line c asks seen command r ∷ []

-- a look that is ok prints the reply that it was for, unless that is a read which has to register
abbrev pub looked_lines : {S : Type 0} → Wording S → ℕ → Client S → Option Reading → List Line
looked_lines w seen x None = first_line w x.sent
looked_lines w seen x (Some r) = if registers (next_asked w.asks x) r.node then [] else read_line w.session w.asks seen (x.begun + 1) r ∷ []

-- an eviction is told where the session isn't known to be closed
abbrev pub expired_lines : Bool → ℕ → ℕ → List Line
expired_lines closed c tx = if closed then [] else line.Expired c tx ∷ []

abbrev pub notice_of : ℕ → Option Firing → List Line
notice_of c None = []
notice_of c (Some f) = line.Notice c f.tx f.watch.kind f.change f.watch.path ∷ []

abbrev pub failed_line : ℕ → List Ask → ℕ → Line
failed_line c asks command = line_for c asks command (shown.Plain code.SystemError)

-- what an operation prints before what is ready; a watch is told where it is held
abbrev pub own_lines : {S : Type 0} → Wording S → Sight → Client S → Op → List Line
own_lines w s x (op.TakeEvicted session k tx) = expired_lines x.closed s.session tx
own_lines w s x (op.TakeWatch session watch) = if contains watch x.held then notice_of s.session (s.firing watch) else []
own_lines w s x (op.LookOk session command mark) = looked_lines w s.seen x x.reading
own_lines w s x (op.WatchSet session command watch) = read_lines s.session s.asks s.seen command x.reading
own_lines w s x (op.ReadFault session command) = failed_line s.session s.asks command ∷ []
own_lines w s x (op.WatchFault session command) = failed_line s.session s.asks command ∷ []
own_lines w s x _ = []

-- ---- the lines of a history's clients

-- a commit shows what its push did
abbrev pub shown_result : Plan → List Entry → Result → Shown
shown_result p h r = shown_as (λ tx. shown_applied tx (committed_as p tx h)) r

-- how the rules word the lines of client c
abbrev pub wording : Plan → ℕ → List Entry → Wording Sent
wording p c h = record { session = c; asks = asks_in p c; command = λ s. s.command; shows = λ s. shown_result p h s.result }

-- The lines that client c prints with one of its operations: the operation's own, then the replies that
-- are ready.
abbrev pub client_lines : Plan → ℕ → List Entry → Op → List Line
client_lines p c h o = let x = client_of p c h in own_lines (wording p c h) (sight_of p c h) x o ++ reply_lines (wording p c h) (ready_first by_result (acted_by (sight_of p c h) o x).sent)
