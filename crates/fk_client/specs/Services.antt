-- What the services mean after an operation of a client. Each operation uses one of them.
use Rattle.std.specs.Prelude.{ℕ, List, Option, Some, None}
use Rattle.fk_tree.specs.declared.request.Request.{Request}
use Rattle.fk_print.specs.declared.op.Op.{Op}
use Rattle.fk_print.specs.declared.op.Op.TheVariants as op
use Rattle.fk_queue.specs.Meaning as post
use Rattle.fk_queue.specs.declared.lane.Lane.TheVariants as lane
use Rattle.fk_store.specs.Meaning as table
use Rattle.fk_store.specs.Writes.{written}
use Rattle.fk_store.specs.declared.write.Write.TheVariants as write
use Rattle.fk_user.specs.Meaning as user
use Rattle.fk_watch.specs.Meaning as watches
use Rattle.fk_watch.specs.Meaning.{Watches}
use Rattle.fk_watch.specs.Registering.{registered}
use Rattle.fk_wire.specs.SentText.{sent_text}
use Rattle.fk_wire.specs.declared.message.Sent.{Sent}
use Rattle.fk_wire.specs.declared.message.Tell.{Tell}
use Rattle.fk_wire.specs.declared.version.Version.TheVariants as version
use Rattle.fk_spec.specs.Plan.{Ask, Want, Unfit, Writes, Reads}
use Rattle.fk_client.specs.Meaning.{Meaning, next_ask}
use Rattle.fk_client.specs.Operation.{step_op}
use Rattle.fk_client.specs.Registering.{watch_of}
use Rattle.fk_client.specs.Shown.{after_by, lines_by}
use Rattle.fk_print.specs.declared.line.Line.{Line}

-- ---- the table

abbrev pub table_by : Op → table.Meaning → table.Meaning
table_by (op.Pong session ping) t = written (write.Pong session ping) t
table_by (op.PongFault session) t = table.called t
table_by _ t = t

-- ---- the post

-- the message of a request, with what its client had seen
abbrev pub message_of : ℕ → Request → Sent
message_of seen r = record { request = r; seen = seen }

abbrev pub sent_for : ℕ → ℕ → Want → post.Meaning → post.Meaning
sent_for session seen Unfit q = q
sent_for session seen (Writes r) q = post.pushed (lane.Session session) (sent_text version.Two (message_of seen r)) q
sent_for session seen (Reads a watch) q = q

abbrev pub sent_asked : ℕ → ℕ → Option Ask → post.Meaning → post.Meaning
sent_asked session seen None q = q
sent_asked session seen (Some a) q = sent_for session seen a.want q

-- what an operation does with the post: it takes the head of an inbox, sends a request, or fails
pub data Posting : Type 0 where
  Keeps : Posting
  Takes : (session : ℕ) → Posting
  Sends : (session : ℕ) → Posting
  Fails : Posting

abbrev pub posting : Op → Posting
posting (op.TakeDone session k tx) = Takes session
posting (op.TakeEvicted session k tx) = Takes session
posting (op.TakeRefused session k) = Takes session
posting (op.TakeLost session k) = Takes session
posting (op.TakeWatch session watch) = Takes session
posting (op.TakePing session ping) = Takes session
posting (op.TakeFault session) = Fails
posting (op.Send session command k) = Sends session
posting (op.SendFault session command) = Fails
posting _ = Keeps

abbrev pub posted_as : Meaning → Posting → post.Meaning → post.Meaning
posted_as m Keeps q = q
posted_as m (Takes session) q = post.popped (lane.Inbox session) q
posted_as m (Sends session) q = sent_asked session m.seen (next_ask m) q
posted_as m Fails q = post.called q

-- the post after an operation of a client
abbrev pub post_by : Meaning → Op → post.Meaning → post.Meaning
post_by m o q = posted_as m (posting o) q

-- ---- the table of watches

abbrev pub registered_for : ℕ → ℕ → Want → Watches → Watches
registered_for session watch Unfit w = w
registered_for session watch (Writes r) w = w
registered_for session watch (Reads q flag) w = registered (watch_of session q) watch w

abbrev pub registered_asked : ℕ → ℕ → Option Ask → Watches → Watches
registered_asked session watch None w = w
registered_asked session watch (Some a) w = registered_for session watch a.want w

abbrev pub watches_by : Meaning → Op → Watches → Watches
watches_by m (op.WatchSet session command watch) w = registered_asked session watch (next_ask m) w
watches_by m (op.WatchFault session command) w = watches.failed w
watches_by m _ w = w

-- ---- the user storage

-- a look and a read only fail
abbrev pub user_by : Op → user.Meaning → user.Meaning
user_by (op.LookFault session command) u = user.called u
user_by (op.ReadFault session command) u = user.called u
user_by _ u = u

-- ---- the client and its lines after a step on these services, where `told` is the message at the head of its inbox

abbrev pub after_step : table.Meaning → post.Meaning → Watches → user.Meaning → Option Tell → Meaning → Meaning
after_step t q w u told m = after_by q w u told (step_op t q w u told m) m

abbrev pub lines_after_step : table.Meaning → post.Meaning → Watches → user.Meaning → Option Tell → Meaning → List Line
lines_after_step t q w u told m = lines_by q w u told (step_op t q w u told m) m
