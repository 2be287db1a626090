-- What a client prints with its operation, and what it has come to after it, by the rules of clients.
use Rattle.std.specs.Prelude.{ℕ, ◌+◌, List, [], ◌∷◌, ◌++◌, Option, Some, None}
use Rattle.fk_base.specs.Path.{PathNames}
use Rattle.fk_tree.specs.Apply.{part_replies}
use Rattle.fk_tree.specs.declared.applied.Made.{Made}
use Rattle.fk_tree.specs.declared.reply.Reply.{Reply}
use Rattle.fk_tree.specs.declared.reply.Reply.TheVariants as reply
use Rattle.fk_tree.specs.declared.request.Request.{Request}
use Rattle.fk_tree.specs.declared.request.Request.TheVariants as request
use Rattle.fk_print.specs.declared.line.Line.{Line}
use Rattle.fk_print.specs.declared.line.Shown.{Shown}
use Rattle.fk_print.specs.declared.line.Shown.TheVariants as shown
use Rattle.fk_print.specs.declared.op.Op.{Op}
use Rattle.fk_queue.specs.Meaning as post
use Rattle.fk_user.specs.Meaning as user
use Rattle.fk_watch.specs.Meaning.{Watches}
use Rattle.fk_wire.specs.declared.message.Tell.{Tell}
use Rattle.fk_spec.specs.Client.{Client, Reading, acted, flushed, ready_first}
use Rattle.fk_spec.specs.Plan.{Ask, Want, Unfit, Writes, Reads, nth}
use Rattle.fk_spec.specs.Replies.{Wording, line_for, own_lines, read_line, reply_lines, shown_as, shown_reply}
use Rattle.fk_spec.specs.Shown.{seen_lines}
use Rattle.fk_spec.specs.Sight.{Sight}
use Rattle.fk_client.specs.Known.{by_outcome, known}
use Rattle.fk_client.specs.Meaning.{Meaning}
use Rattle.fk_client.specs.Sighting.{outcome_told, sight_by, sight_in}
use Rattle.fk_client.specs.declared.unanswered.Outcome.{Outcome}
use Rattle.fk_client.specs.declared.unanswered.Outcome.TheVariants as outcome
use Rattle.fk_client.specs.declared.unanswered.Unanswered.{Unanswered}

-- ---- replies

-- what a request that was committed with this name, version and made is answered
abbrev pub reply_told : PathNames → ℕ → List Made → Request → Reply
reply_told name version made (request.Create path bytes seq eph) = reply.Created name
reply_told name version made (request.Set path bytes expected) = reply.Version version
reply_told name version made (request.Delete path expected) = reply.Deleted
reply_told name version made (request.Close evict) = reply.Closed
reply_told name version made (request.Multi parts) = reply.Multi (part_replies parts made)

-- only a write is committed, so the other two don't come
abbrev pub shown_done : ℕ → PathNames → ℕ → List Made → Want → Shown
shown_done tx name version made Unfit = shown.Done tx
shown_done tx name version made (Writes r) = shown_reply tx (reply_told name version made r)
shown_done tx name version made (Reads q watch) = shown.Done tx

abbrev pub shown_commit : ℕ → PathNames → ℕ → List Made → Option Ask → Shown
shown_commit tx name version made None = shown.Done tx
shown_commit tx name version made (Some a) = shown_done tx name version made a.want

-- what a commit shows that a command, which asks this, is kept with; what isn't done shows no commit
abbrev pub shown_kept : Option Ask → Outcome → ℕ → Shown
shown_kept a (outcome.Done t name version made) tx = shown_commit tx name version made a
shown_kept a outcome.Open tx = shown.Done tx
shown_kept a (outcome.Refused code at place) tx = shown.Done tx
shown_kept a (outcome.Lost path own found moment) tx = shown.Done tx
shown_kept a (outcome.Plain code) tx = shown.Done tx
shown_kept a (outcome.Expired at) tx = shown.Done tx

-- what the reply to a command shows
abbrev pub shown_outcome : Option Ask → Outcome → Shown
shown_outcome a o = shown_as (shown_kept a o) (known o)

-- how a client of this session, whose commands ask this, words its replies
abbrev pub wording_of : ℕ → List Ask → Wording Unanswered
wording_of session asks = record {
  session = session;
  asks = asks;
  command = λ s. s.command;
  shows = λ s. shown_outcome (nth asks s.command) s.outcome;
}

-- how a client words its replies
abbrev pub wording : Meaning → Wording Unanswered
wording m = wording_of m.session m.asks

-- ---- all lines

-- the line of its next command, which shows this
abbrev pub next_lines : Meaning → Shown → List Line
next_lines m x = line_for m.session m.asks (m.client.begun + 1) x ∷ []

-- the line of its next command, a read that came to this
abbrev pub read_lines : Meaning → Reading → List Line
read_lines m r = read_line m.session m.asks m.seen (m.client.begun + 1) r ∷ []

-- what an operation prints before what is ready; `s` is what it reads of its services
abbrev pub lines_in : Sight → Op → Meaning → List Line
lines_in s o m = own_lines (wording m) (sight_in m s) m.client o

-- it holds this once it printed these lines, whose numbers it has seen
abbrev pub seeing : List Line → Client Unanswered → Meaning → Meaning
seeing ls c m = record { session = m.session; asks = m.asks; seen = seen_lines m.session ls m.seen; client = c }

-- a client after an operation, before it prints what is ready
abbrev pub made_in : Sight → Option Tell → Op → Meaning → Meaning
made_in s told o m = seeing (lines_in s o m) (acted by_outcome (sight_in m s) (outcome_told told) o m.client) m

abbrev pub made_by : post.Meaning → Watches → user.Meaning → Option Tell → Op → Meaning → Meaning
made_by q w u told o m = made_in (sight_by q w u told m) told o m

-- the replies that are ready
abbrev pub ready_lines : Meaning → List Line
ready_lines m = reply_lines (wording m) (ready_first by_outcome m.client.sent)

-- a client after it printed them
abbrev pub printed : Meaning → Meaning
printed m = seeing (ready_lines m) (flushed by_outcome m.client) m

-- The lines of an operation: its own, then the replies that are ready. The services are those before it, and `told`
-- is the message at the head of its inbox.
abbrev pub lines_by : post.Meaning → Watches → user.Meaning → Option Tell → Op → Meaning → List Line
lines_by q w u told o m = lines_in (sight_by q w u told m) o m ++ ready_lines (made_by q w u told o m)

-- The client after an operation and its lines.
abbrev pub after_by : post.Meaning → Watches → user.Meaning → Option Tell → Op → Meaning → Meaning
after_by q w u told o m = printed (made_by q w u told o m)
