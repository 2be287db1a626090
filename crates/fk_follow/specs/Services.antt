-- What the services mean after a follower's operation.
use Rattle.std.specs.Prelude.{ℕ, if◌then◌else◌, List, [], Option, Some, None}
use Rattle.fk_base.specs.Path.{PathNames}
use Rattle.fk_base.specs.declared.code.Code.TheVariants as code
use Rattle.fk_tree.specs.Check.{Refusal}
use Rattle.fk_queue.specs.Answers.{ack_of, after_ack}
use Rattle.fk_queue.specs.Meaning as post
use Rattle.fk_queue.specs.Meaning.{posted}
use Rattle.fk_queue.specs.declared.lane.Lane.{Lane}
use Rattle.fk_queue.specs.declared.lane.Lane.TheVariants as lane
use Rattle.fk_store.specs.Locks.{is_free}
use Rattle.fk_store.specs.Meaning as table
use Rattle.fk_store.specs.Meaning.{lock_of}
use Rattle.fk_store.specs.Writes.{written}
use Rattle.fk_store.specs.declared.outcome.Outcome.{Outcome}
use Rattle.fk_store.specs.declared.outcome.Outcome.TheVariants as kept
use Rattle.fk_store.specs.declared.write.Write.TheVariants as write
use Rattle.fk_wire.specs.PushedText.{pushed_text}
use Rattle.fk_wire.specs.TellText.{tell_text}
use Rattle.fk_wire.specs.declared.message.Pushed.{Pushed}
use Rattle.fk_wire.specs.declared.message.Tell.{Tell}
use Rattle.fk_wire.specs.declared.version.Version.TheVariants as version
use Rattle.fk_spec.specs.Follower.{Stage}
use Rattle.fk_spec.specs.Follower as stage
use Rattle.fk_follow.specs.Meaning.{Meaning}
use Rattle.fk_follow.specs.Operation.{locked}
use Rattle.fk_settle.specs.Transaction.{committed, refuse_writes, settle_conds, transacted}
use Rattle.fk_stand.specs.Messages.{outcome_tell, push_with}

-- ---- messages

-- what it pushes at this moment
abbrev pub push_at : ℕ → Meaning → Pushed
push_at moment m = push_with m.inv moment m.follower m.message.request

-- ---- the post

abbrev pub told : ℕ → Option Tell → post.Meaning → post.Meaning
told session None q = q
told session (Some m) q = posted (lane.Inbox session) (tell_text version.Two m) q

-- the post after the acknowledgement of a message of this number
abbrev pub acknowledged : Lane → ℕ → post.Meaning → post.Meaning
acknowledged l k q = after_ack q l (ack_of q l k)

abbrev pub stage_post : post.Meaning → ℕ → Meaning → Stage → post.Meaning
stage_post q now m stage.Session = q
stage_post q now m stage.Owned = q
stage_post q now m (stage.Lock path) = q
stage_post q now m stage.Push = posted lane.Leader (pushed_text version.Two (push_at now m)) q
stage_post q now m (stage.Refuse r at) = q
stage_post q now m (stage.Expire at) = q
stage_post q now m (stage.Commit tx) = q
stage_post q now m stage.Lost = q
stage_post q now m stage.Reply = told m.follower.session (outcome_tell m.follower.k m.outcome) q
stage_post q now m stage.Ack = acknowledged (lane.Session m.follower.session) m.follower.k q
stage_post q now m stage.Ended = q

-- The post after a follower's operation at this moment: a push, a reply and an acknowledgement use it.
abbrev pub post_after_step : post.Meaning → ℕ → Meaning → post.Meaning
post_after_step q now m = stage_post q now m m.follower.stage

-- ---- the table

-- the table after a lock was asked for
abbrev pub taken : PathNames → ℕ → ℕ → ℕ → table.Meaning → table.Meaning
taken path n now time t =
    if t.armed then table.called t
    else if is_free now time (lock_of t path) then written (write.Grant path n now) t
    else t

abbrev pub refused : Refusal → ℕ → Outcome
refused r at = kept.Refused r.code at r.place

-- an outcome is settled where these locks are held, which are released
abbrev pub settled_as : Outcome → List PathNames → Meaning → table.Meaning → table.Meaning
settled_as o ps m t =
    transacted (settle_conds m.follower.session m.follower.k m.inv ps)
    (refuse_writes m.follower.session m.follower.k o ps) t

abbrev pub stage_table : table.Meaning → ℕ → ℕ → Meaning → Stage → table.Meaning
stage_table t now time m stage.Session = table.called t
stage_table t now time m stage.Owned = table.called t
stage_table t now time m (stage.Lock path) = taken path m.inv now time t
stage_table t now time m stage.Push = t
stage_table t now time m (stage.Refuse r at) = settled_as (refused r at) (locked m.follower) m t
stage_table t now time m (stage.Expire at) = settled_as (kept.Refused code.SessionExpired at 0) [] m t
stage_table t now time m (stage.Commit tx) = committed tx (push_at m.moment m) t
stage_table t now time m stage.Lost = settled_as m.outcome [] m t
stage_table t now time m stage.Reply = t
stage_table t now time m stage.Ack = t
stage_table t now time m stage.Ended = t

-- The table after a follower's operation at this moment, where locks pass on after `time`.
abbrev pub table_after_step : table.Meaning → ℕ → ℕ → Meaning → table.Meaning
table_after_step t now time m = stage_table t now time m m.follower.stage
