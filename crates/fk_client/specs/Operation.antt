-- The operation that a client makes next, by the rules of clients over what it reads of its services.
use Rattle.std.specs.Prelude.{Bool, false, if◌then◌else◌, Option}
use Rattle.fk_print.specs.declared.op.Op.{Op}
use Rattle.fk_print.specs.declared.op.Op.TheVariants as op
use Rattle.fk_queue.specs.Meaning as post
use Rattle.fk_store.specs.Meaning as table
use Rattle.fk_user.specs.Meaning as user
use Rattle.fk_watch.specs.Meaning.{Watches}
use Rattle.fk_wire.specs.declared.message.Tell.{Tell}
use Rattle.fk_spec.specs.Client.{failed_op, op_of_client}
use Rattle.fk_client.specs.Known.{by_outcome}
use Rattle.fk_client.specs.Meaning.{Meaning}
use Rattle.fk_client.specs.Sighting.{sight_by}

-- The operation that a client makes where no service fails. `told` is the message at the head of its inbox.
abbrev pub calm_op : post.Meaning → Watches → user.Meaning → Option Tell → Meaning → Op
calm_op q w u told m = op_of_client by_outcome (sight_by q w u told m) m.client

-- whether the service of an operation fails: the table's at a pong, the post's at a take and a send, the user
-- storage's at a look and a read, the table of watches' at a registration
abbrev pub is_armed : table.Meaning → post.Meaning → Watches → user.Meaning → Op → Bool
is_armed t q w u (op.Pong session ping) = t.armed
is_armed t q w u (op.TakeDone session k tx) = q.armed
is_armed t q w u (op.TakeEvicted session k tx) = q.armed
is_armed t q w u (op.TakeRefused session k) = q.armed
is_armed t q w u (op.TakeLost session k) = q.armed
is_armed t q w u (op.TakeWatch session watch) = q.armed
is_armed t q w u (op.TakePing session ping) = q.armed
is_armed t q w u (op.LookOk session command mark) = u.armed
is_armed t q w u (op.LookBehind session command mark) = u.armed
is_armed t q w u (op.LookHeld session command mark watch) = u.armed
is_armed t q w u (op.Send session command k) = q.armed
is_armed t q w u (op.Read session command stamp) = u.armed
is_armed t q w u (op.WatchSet session command watch) = w.armed
is_armed t q w u (op.WatchSwept session command tx) = w.armed
is_armed t q w u _ = false

abbrev pub failed_if : Bool → Op → Op
failed_if armed o = if armed then failed_op o else o

abbrev pub or_failed : table.Meaning → post.Meaning → Watches → user.Meaning → Op → Op
or_failed t q w u o = failed_if (is_armed t q w u o) o

-- The operation that a client makes on these services, where `told` is the message at the head of its inbox.
abbrev pub step_op : table.Meaning → post.Meaning → Watches → user.Meaning → Option Tell → Meaning → Op
step_op t q w u told m = or_failed t q w u (calm_op q w u told m)
