-- The operation that a follower makes, by what it reads of the services.
use Rattle.std.specs.Prelude.{ℕ, ◌+◌, ◌==◌, Bool, false, if◌then◌else◌, List, length}
use Rattle.fk_base.specs.Path.{PathNames}
use Rattle.fk_base.specs.declared.code.Code.TheVariants as code
use Rattle.fk_tree.specs.Check.{Refusal}
use Rattle.fk_tree.specs.Sorted.{in_path_order}
use Rattle.fk_print.specs.declared.op.Op.{Op}
use Rattle.fk_print.specs.declared.op.Op.TheVariants as op
use Rattle.fk_queue.specs.Letters.{head_number}
use Rattle.fk_queue.specs.Meaning as post
use Rattle.fk_queue.specs.declared.lane.Lane.TheVariants as lane
use Rattle.fk_store.specs.Conds.{session_of}
use Rattle.fk_store.specs.Locks.{is_free}
use Rattle.fk_store.specs.Meaning as table
use Rattle.fk_store.specs.Meaning.{lock_of}
use Rattle.fk_store.specs.declared.lock.Lock.{Lock}
use Rattle.fk_store.specs.declared.outcome.Outcome.{Outcome}
use Rattle.fk_store.specs.declared.outcome.Outcome.TheVariants as kept
use Rattle.fk_store.specs.declared.session_record.SessionRecord.{SessionRecord}
use Rattle.fk_spec.specs.Follower.{Follower, Stage, ack_op, commit_locked, paths_of, refuse_locked, unsettled_op}
use Rattle.fk_spec.specs.Follower as stage
use Rattle.fk_spec.specs.Failing.{or_fault}
use Rattle.fk_spec.specs.Function.{follower_word}
use Rattle.fk_settle.specs.Held.{first_passed}
use Rattle.fk_follow.specs.Meaning.{Meaning}

-- ---- what is read of the table

abbrev pub settled_op : ℕ → Outcome → Op
settled_op n (kept.Applied tx) = op.SessionApplied n
settled_op n _ = op.SessionRefused n

-- the session's next request, its last one, or one that is past
abbrev pub session_op : ℕ → ℕ → SessionRecord → Op
session_op n k r =
    if r.settled + 1 == k then unsettled_op n r.closed
    else if r.settled == k then settled_op n r.outcome
    else op.SessionPast n

abbrev pub lock_op : ℕ → ℕ → ℕ → PathNames → Lock → Op
lock_op now time n path l = if is_free now time l then op.LockOk n path else op.LockBusy n path l.inv l.moment

-- the paths whose locks a commit and a refusal need, and release
abbrev pub locked : Follower → List PathNames
locked f = in_path_order (paths_of f.granted)

-- the last request of its session that was settled
abbrev pub settled_in : table.Meaning → Follower → ℕ
settled_in t f = (session_of t f.session).settled

-- whether its request is its session's next to settle
abbrev pub is_next : table.Meaning → Follower → Bool
is_next t f = settled_in t f + 1 == f.k

-- A push commits where its request is the session's next to settle, and the lock of each path that was granted is
-- still held.
abbrev pub commit_op : table.Meaning → ℕ → ℕ → Follower → Op
commit_op t n tx f =
    if is_next t f then commit_locked n tx (first_passed n t (locked f)) else op.CommitSettled n tx (settled_in t f)

-- a refusal where the locks of these paths are held
abbrev pub refuse_on : table.Meaning → ℕ → Refusal → ℕ → Follower → List PathNames → Op
refuse_on t n r at f ps =
    if is_next t f then refuse_locked n r at (first_passed n t ps) else op.RefuseSettled n r.code r.place at (settled_in t f)

-- a refusal is settled under the same conditions as a commit
abbrev pub refuse_op : table.Meaning → ℕ → Refusal → ℕ → Follower → Op
refuse_op t n r at f = refuse_on t n r at f (locked f)

-- a request of a closed session is refused under the first of them alone, and so is a loss settled
abbrev pub expire_op : table.Meaning → ℕ → ℕ → Follower → Op
expire_op t n at f =
    if is_next t f then op.RefuseOk n code.SessionExpired 0 at else op.RefuseSettled n code.SessionExpired 0 at (settled_in t f)

abbrev pub lost_op : table.Meaning → ℕ → Follower → Op
lost_op t n f = if is_next t f then op.LostOk n else op.LostSettled n (settled_in t f)

-- ---- the operation

-- where the services don't fail: `owned` is what the table gives for the session's own nodes
abbrev pub calm_op : table.Meaning → post.Meaning → ℕ → ℕ → List PathNames → ℕ → Follower → Stage → Op
calm_op t q now time owned n f stage.Session = session_op n f.k (session_of t f.session)
calm_op t q now time owned n f stage.Owned = op.Owned n (length owned)
calm_op t q now time owned n f (stage.Lock path) = lock_op now time n path (lock_of t path)
calm_op t q now time owned n f stage.Push = op.Push n ((q.lanes lane.Leader).given + 1)
calm_op t q now time owned n f (stage.Refuse r at) = refuse_op t n r at f
calm_op t q now time owned n f (stage.Expire at) = expire_op t n at f
calm_op t q now time owned n f (stage.Commit tx) = commit_op t n tx f
calm_op t q now time owned n f stage.Lost = lost_op t n f
calm_op t q now time owned n f stage.Reply = op.Reply n f.session f.k
calm_op t q now time owned n f stage.Ack = ack_op n f.k (head_number (q.lanes (lane.Session f.session)))
calm_op t q now time owned n f stage.Ended = op.Idle

-- whether the service that the operation calls is armed
abbrev pub is_armed : table.Meaning → post.Meaning → Stage → Bool
is_armed t q stage.Session = t.armed
is_armed t q stage.Owned = t.armed
is_armed t q (stage.Lock path) = t.armed
is_armed t q stage.Push = q.armed
is_armed t q (stage.Refuse r at) = t.armed
is_armed t q (stage.Expire at) = t.armed
is_armed t q (stage.Commit tx) = t.armed
is_armed t q stage.Lost = t.armed
is_armed t q stage.Reply = q.armed
is_armed t q stage.Ack = q.armed
is_armed t q stage.Ended = false

-- The operation that a follower makes on these services at this moment, where locks pass on after `time`.
abbrev pub step_op : table.Meaning → post.Meaning → ℕ → ℕ → List PathNames → Meaning → Op
step_op t q now time owned m =
    or_fault (is_armed t q m.follower.stage) m.inv (follower_word m.follower.stage)
    (calm_op t q now time owned m.inv m.follower m.follower.stage)
