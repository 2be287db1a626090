-- The leader: it finishes or rejects one push, and publishes it.
use Rattle.std.specs.Prelude.{ℕ, ◌+◌, nat_lt, if◌then◌else◌, List, [], ◌∷◌, Option, Some, None, length}
use Rattle.fk_base.specs.Path.{PathNames}
use Rattle.fk_tree.specs.Touch.{edited_paths}
use Rattle.fk_tree.specs.declared.applied.Applied.{Applied}
use Rattle.fk_print.specs.declared.entry.Entry.{Entry}
use Rattle.fk_print.specs.declared.op.Op.{Op}
use Rattle.fk_print.specs.declared.op.Op.TheVariants as op
use Rattle.fk_spec.specs.Plan.{Plan}
use Rattle.fk_spec.specs.Start.{Task, Follows, Push, push_of, task_of}
use Rattle.fk_spec.specs.Settling.{is_pending, done_of, swept_of, mark_of}
use Rattle.fk_spec.specs.Stored.{committed_as, stamp_of}
use Rattle.fk_spec.specs.Watches.{Firing, swept_by, firings, fired_by, fired_watches, set_watches, touches_of_push}
use Rattle.fk_spec.specs.Lanes.{leader_head, notes_of}
use Rattle.fk_spec.specs.Follower.{commit_op, ack_op}

-- the operation before which a leader stands
pub data Stage : Type 0 where
  Commit : Stage
  Pending : Stage
  Drop : Stage
  Sweep : Stage
  Put : (path : PathNames) (others : List PathNames) → Stage
  Publish : Stage
  Notify : Stage
  Reply : Stage
  Done : Stage
  Ack : Stage
  Ended : Stage

-- the next path to put, or the publication after the last one
abbrev pub to_put : List PathNames → Stage
to_put [] = Publish
to_put (p ∷ ps) = Put p ps

abbrev pub after_put : Stage → Stage
after_put (Put p ps) = to_put ps
after_put s = s

-- the paths that a committed push edits, in path order
abbrev pub paths_to_put : Option Applied → List PathNames
paths_to_put None = []
paths_to_put (Some a) = edited_paths a

-- fired watches are notified before the reply
abbrev pub to_notify : List Firing → Stage
to_notify [] = Reply
to_notify (f ∷ fs) = Notify

-- What comes after each answer of the leader on push t. `h` are the entries before.
abbrev pub next_leader : Plan → List Entry → ℕ → Op → Stage → Stage
next_leader p h t (op.CommitOk n tx) s = Sweep
next_leader p h t (op.CommitSettled n tx settled) s = Pending
next_leader p h t (op.CommitLock n tx path holder moment) s = Pending
next_leader p h t (op.PendingYes n tx) s = Sweep
next_leader p h t (op.PendingNo n tx) s = Drop
next_leader p h t (op.DropOk n tx) s = Ack
next_leader p h t (op.DropMiss n tx done) s = Ack
next_leader p h t (op.SweepOk n tx fired) s = to_put (paths_to_put (committed_as p t h))
next_leader p h t (op.SweepMiss n tx swept fired) s = to_put (paths_to_put (committed_as p t h))
next_leader p h t (op.PutOk n tx path) s = after_put s
next_leader p h t (op.PutMiss n tx path stamp) s = after_put s
next_leader p h t (op.PublishOk n tx) s = to_notify (swept_by p n h).fired
next_leader p h t (op.PublishMiss n tx mark) s = to_notify (swept_by p n h).fired
next_leader p h t (op.Notify n tx note) s = Reply
next_leader p h t (op.Reply n session k) s = Done
next_leader p h t (op.DoneOk n tx) s = Ack
next_leader p h t (op.DoneMiss n tx done) s = Ack
next_leader p h t _ s = Ended

-- the message that push t's function works on
abbrev pub for_task : Option Task → (ℕ → ℕ → Op) → Op
for_task (Some (Follows session k)) f = f session k
for_task _ f = op.Idle

abbrev pub for_push : List Entry → Option Push → (ℕ → ℕ → ℕ → Op) → Op
for_push h None f = op.Idle
for_push h (Some x) f = for_task (task_of x.function h) (λ session k. f x.function session k)

-- f of the function, the session and the message that push t is of
abbrev pub of_push : ℕ → List Entry → (ℕ → ℕ → ℕ → Op) → Op
of_push t h f = for_push h (push_of t h) f

-- A sweep fires the set watches that the push's touches take; one that comes late finds those that are
-- fired and not told.
abbrev pub sweep_op : Plan → List Entry → ℕ → ℕ → Op
sweep_op p h n t =
    if nat_lt (swept_of h) t then op.SweepOk n t (length (firings t (touches_of_push p t h) (set_watches p h))) else op.SweepMiss n t (swept_of h) (length (fired_by t (fired_watches p h)))

-- the operation that leader n makes on push t
abbrev pub leader_op : Plan → List Entry → ℕ → ℕ → Stage → Op
leader_op p h n t Commit = of_push t h (λ holder session k. commit_op h n t holder session k)
leader_op p h n t Pending = if is_pending t h then op.PendingYes n t else op.PendingNo n t
leader_op p h n t Drop = if nat_lt (done_of h) t then op.DropOk n t else op.DropMiss n t (done_of h)
leader_op p h n t Sweep = sweep_op p h n t
leader_op p h n t (Put path others) = if nat_lt (stamp_of path h) t then op.PutOk n t path else op.PutMiss n t path (stamp_of path h)
leader_op p h n t Publish = if nat_lt (mark_of h) t then op.PublishOk n t else op.PublishMiss n t (mark_of h)
leader_op p h n t Notify = op.Notify n t (notes_of h + 1)
leader_op p h n t Reply = of_push t h (λ holder session k. op.Reply n session k)
leader_op p h n t Done = if nat_lt (done_of h) t then op.DoneOk n t else op.DoneMiss n t (done_of h)
leader_op p h n t Ack = ack_op n t (leader_head h)
leader_op p h n t Ended = op.Idle
