-- What the services mean after a leader's operation.
use Rattle.std.specs.Prelude.{ℕ, nat_lt, Bool, false, if◌then◌else◌, List, [], ◌∷◌}
use Rattle.fk_base.specs.Path.{PathNames}
use Rattle.fk_tree.specs.declared.edit.Edit.{Edit}
use Rattle.fk_tree.specs.declared.request.Request.{Request}
use Rattle.fk_tree.specs.declared.request.Request.TheVariants as request
use Rattle.fk_queue.specs.Answers.{ack_of, after_ack}
use Rattle.fk_queue.specs.Meaning as post
use Rattle.fk_queue.specs.Meaning.{posted}
use Rattle.fk_queue.specs.declared.lane.Lane.TheVariants as lane
use Rattle.fk_store.specs.Meaning as table
use Rattle.fk_store.specs.declared.cond.Cond.{Cond}
use Rattle.fk_store.specs.declared.cond.Cond.TheVariants as cond
use Rattle.fk_store.specs.declared.write.Write.{Write}
use Rattle.fk_store.specs.declared.write.Write.TheVariants as write
use Rattle.fk_user.specs.Meaning as user
use Rattle.fk_user.specs.Meaning.{published, with_put}
use Rattle.fk_watch.specs.Meaning.{Watches}
use Rattle.fk_wire.specs.NoteText.{note_text}
use Rattle.fk_wire.specs.TellText.{tell_text}
use Rattle.fk_wire.specs.declared.message.Note.{Note}
use Rattle.fk_wire.specs.declared.message.Pushed.{Pushed}
use Rattle.fk_wire.specs.declared.message.Tell.{Tell}
use Rattle.fk_wire.specs.declared.message.Tell.TheVariants as tell
use Rattle.fk_wire.specs.declared.version.Version.TheVariants as version
use Rattle.fk_spec.specs.Leader.{Stage}
use Rattle.fk_spec.specs.Leader as stage
use Rattle.fk_settle.specs.Transaction.{committed, transacted}
use Rattle.fk_stand.specs.Messages.{done_tell}
use Rattle.fk_lead.specs.Meaning.{Meaning, edits_of, touches_of}
use Rattle.fk_lead.specs.Sweeping.{swept_at}

-- ---- the table

-- no push up to this one is finished
abbrev pub finish_conds : ℕ → List Cond
finish_conds tx = cond.DoneBelow tx ∷ []

abbrev pub drop_writes : ℕ → List Write
drop_writes tx = write.Done tx ∷ []

-- a finished push leaves its session's pending list
abbrev pub done_writes : ℕ → ℕ → List Write
done_writes session tx = write.Done tx ∷ write.PopPending session tx ∷ []

abbrev pub stage_table : table.Meaning → Meaning → Stage → table.Meaning
stage_table t m stage.Commit = committed m.tx m.message t
stage_table t m stage.Pending = table.called t
stage_table t m stage.Drop = transacted (finish_conds m.tx) (drop_writes m.tx) t
stage_table t m stage.Sweep = t
stage_table t m (stage.Put path others) = t
stage_table t m stage.Publish = t
stage_table t m stage.Notify = t
stage_table t m stage.Reply = t
stage_table t m stage.Done = transacted (finish_conds m.tx) (done_writes m.message.session m.tx) t
stage_table t m stage.Ack = t
stage_table t m stage.Ended = t

-- The table after a leader's operation.
abbrev pub table_after_step : table.Meaning → Meaning → table.Meaning
table_after_step t m = stage_table t m m.stage

-- ---- the post

-- what its push fired and isn't told
abbrev pub note_of : Meaning → Note
note_of m = record { tx = m.tx; fired = m.swept.fired }

abbrev pub is_evict : Request → Bool
is_evict (request.Close evict) = evict
is_evict _ = false

-- the client is told that it was evicted, or that its request is done
abbrev pub reply_tell : ℕ → Pushed → Tell
reply_tell tx x = if is_evict x.request then tell.Evicted x.k tx else done_tell x.k tx x

abbrev pub stage_post : post.Meaning → Meaning → Stage → post.Meaning
stage_post q m stage.Commit = q
stage_post q m stage.Pending = q
stage_post q m stage.Drop = q
stage_post q m stage.Sweep = q
stage_post q m (stage.Put path others) = q
stage_post q m stage.Publish = q
stage_post q m stage.Notify = posted lane.Watch (note_text version.Two (note_of m)) q
stage_post q m stage.Reply = posted (lane.Inbox m.message.session) (tell_text version.Two (reply_tell m.tx m.message)) q
stage_post q m stage.Done = q
stage_post q m stage.Ack = after_ack q lane.Leader (ack_of q lane.Leader m.tx)
stage_post q m stage.Ended = q

-- The post after a leader's operation.
abbrev pub post_after_step : post.Meaning → Meaning → post.Meaning
post_after_step q m = stage_post q m m.stage

-- ---- the watches

abbrev pub stage_watches : Watches → Meaning → Stage → Watches
stage_watches w m stage.Commit = w
stage_watches w m stage.Pending = w
stage_watches w m stage.Drop = w
stage_watches w m stage.Sweep = swept_at m.tx (touches_of m) w
stage_watches w m (stage.Put path others) = w
stage_watches w m stage.Publish = w
stage_watches w m stage.Notify = w
stage_watches w m stage.Reply = w
stage_watches w m stage.Done = w
stage_watches w m stage.Ack = w
stage_watches w m stage.Ended = w

-- The watches after a leader's operation.
abbrev pub watches_after_step : Watches → Meaning → Watches
watches_after_step w m = stage_watches w m m.stage

-- ---- the user storage

-- the store after a put that doesn't want memory
abbrev pub put_at : PathNames → ℕ → ℕ → List Edit → user.Meaning → user.Meaning
put_at path tx moment es u =
    if u.armed then user.called u
    else if nat_lt (u.records path).stamp tx then with_put u path tx moment es
    else u

-- the store after a publication that doesn't want memory
abbrev pub published_at : ℕ → List ℕ → user.Meaning → user.Meaning
published_at tx epoch u = if u.armed then user.called u else if nat_lt u.mark tx then published u tx epoch else u

abbrev pub stage_user : user.Meaning → Meaning → Stage → user.Meaning
stage_user u m stage.Commit = u
stage_user u m stage.Pending = u
stage_user u m stage.Drop = u
stage_user u m stage.Sweep = u
stage_user u m (stage.Put path others) = put_at path m.tx m.message.moment (edits_of path m) u
stage_user u m stage.Publish = published_at m.tx m.swept.epoch u
stage_user u m stage.Notify = u
stage_user u m stage.Reply = u
stage_user u m stage.Done = u
stage_user u m stage.Ack = u
stage_user u m stage.Ended = u

-- The user storage after a leader's operation.
abbrev pub user_after_step : user.Meaning → Meaning → user.Meaning
user_after_step u m = stage_user u m m.stage
