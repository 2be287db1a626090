-- The operation that a leader makes, by what it reads of the services.
use Rattle.std.specs.Prelude.{ℕ, ◌+◌, ◌==◌, nat_lt, Bool, false, if◌then◌else◌, ◌||◌, List, [], ◌∷◌, length}
use Rattle.fk_base.specs.Path.{PathNames}
use Rattle.fk_tree.specs.Sorted.{in_path_order}
use Rattle.fk_print.specs.declared.op.Op.{Op}
use Rattle.fk_print.specs.declared.op.Op.TheVariants as op
use Rattle.fk_queue.specs.Letters.{head_number}
use Rattle.fk_queue.specs.Meaning as post
use Rattle.fk_queue.specs.declared.lane.Lane.TheVariants as lane
use Rattle.fk_store.specs.Conds.{session_of}
use Rattle.fk_store.specs.Meaning as table
use Rattle.fk_user.specs.Meaning as user
use Rattle.fk_watch.specs.Meaning.{Watches}
use Rattle.fk_wire.specs.declared.fired.Fired.{Fired}
use Rattle.fk_wire.specs.declared.message.Pushed.{Pushed}
use Rattle.fk_spec.specs.Follower.{ack_op, commit_locked}
use Rattle.fk_spec.specs.Failing.{or_fault}
use Rattle.fk_spec.specs.Function.{leader_word}
use Rattle.fk_spec.specs.Leader.{Stage}
use Rattle.fk_spec.specs.Leader as stage
use Rattle.fk_settle.specs.Held.{first_passed}
use Rattle.fk_lead.specs.Meaning.{Meaning, Swept}

-- ---- what is read of the services

-- A push commits where its request is the session's next to settle and its function still holds each path that it
-- locked.
abbrev pub commit_op : table.Meaning → ℕ → ℕ → Pushed → Op
commit_op t n tx x =
    if (session_of t x.session).settled + 1 == x.k
    then commit_locked n tx (first_passed x.inv t (in_path_order x.paths))
    else op.CommitSettled n tx (session_of t x.session).settled

-- whether a push is among those that are pending
abbrev pub is_pending : ℕ → List ℕ → Bool
is_pending tx [] = false
is_pending tx (t ∷ ts) = (t == tx) || is_pending tx ts

abbrev pub pending_op : table.Meaning → ℕ → ℕ → ℕ → Op
pending_op t n tx session =
    if is_pending tx (session_of t session).pending then op.PendingYes n tx else op.PendingNo n tx

abbrev pub drop_op : table.Meaning → ℕ → ℕ → Op
drop_op t n tx = if nat_lt t.done tx then op.DropOk n tx else op.DropMiss n tx t.done

-- how many fired: at a sweep that comes late, those of the push that aren't told
abbrev pub sweep_op : Watches → ℕ → ℕ → List Fired → Op
sweep_op w n tx fired =
    if nat_lt w.swept tx then op.SweepOk n tx (length fired) else op.SweepMiss n tx w.swept (length fired)

abbrev pub put_op : user.Meaning → ℕ → ℕ → PathNames → Op
put_op u n tx path =
    if nat_lt (u.records path).stamp tx then op.PutOk n tx path else op.PutMiss n tx path (u.records path).stamp

abbrev pub publish_op : user.Meaning → ℕ → ℕ → Op
publish_op u n tx = if nat_lt u.mark tx then op.PublishOk n tx else op.PublishMiss n tx u.mark

abbrev pub done_op : table.Meaning → ℕ → ℕ → Op
done_op t n tx = if nat_lt t.done tx then op.DoneOk n tx else op.DoneMiss n tx t.done

-- ---- the operation

-- where the services don't fail: `s` is what the watches give at a sweep
abbrev pub calm_op : table.Meaning → post.Meaning → Watches → user.Meaning → Swept → Meaning → Stage → Op
calm_op t q w u s m stage.Commit = commit_op t m.inv m.tx m.message
calm_op t q w u s m stage.Pending = pending_op t m.inv m.tx m.message.session
calm_op t q w u s m stage.Drop = drop_op t m.inv m.tx
calm_op t q w u s m stage.Sweep = sweep_op w m.inv m.tx s.fired
calm_op t q w u s m (stage.Put path others) = put_op u m.inv m.tx path
calm_op t q w u s m stage.Publish = publish_op u m.inv m.tx
calm_op t q w u s m stage.Notify = op.Notify m.inv m.tx ((q.lanes lane.Watch).given + 1)
calm_op t q w u s m stage.Reply = op.Reply m.inv m.message.session m.message.k
calm_op t q w u s m stage.Done = done_op t m.inv m.tx
calm_op t q w u s m stage.Ack = ack_op m.inv m.tx (head_number (q.lanes lane.Leader))
calm_op t q w u s m stage.Ended = op.Idle

-- whether the service that the operation calls is armed
abbrev pub is_armed : table.Meaning → post.Meaning → Watches → user.Meaning → Stage → Bool
is_armed t q w u stage.Commit = t.armed
is_armed t q w u stage.Pending = t.armed
is_armed t q w u stage.Drop = t.armed
is_armed t q w u stage.Sweep = w.armed
is_armed t q w u (stage.Put path others) = u.armed
is_armed t q w u stage.Publish = u.armed
is_armed t q w u stage.Notify = q.armed
is_armed t q w u stage.Reply = q.armed
is_armed t q w u stage.Done = t.armed
is_armed t q w u stage.Ack = q.armed
is_armed t q w u stage.Ended = false

-- The operation that a leader makes on these services.
abbrev pub step_op : table.Meaning → post.Meaning → Watches → user.Meaning → Swept → Meaning → Op
step_op t q w u s m = or_fault (is_armed t q w u m.stage) m.inv (leader_word m.stage) (calm_op t q w u s m m.stage)
