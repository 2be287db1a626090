-- The heartbeat: what it means, its operation, and what comes after it.
use Rattle.std.specs.Prelude.{ℕ, ◌+◌, nat_lt, Bool, true, false, if◌then◌else◌, List, [], ◌∷◌}
use Rattle.fk_tree.specs.declared.request.Request.TheVariants as request
use Rattle.fk_print.specs.declared.op.Op.{Op}
use Rattle.fk_print.specs.declared.op.Op.TheVariants as op
use Rattle.fk_queue.specs.Meaning as post
use Rattle.fk_queue.specs.Meaning.{posted}
use Rattle.fk_queue.specs.declared.lane.Lane.TheVariants as lane
use Rattle.fk_settle.specs.Transaction.{transacted}
use Rattle.fk_store.specs.Conds.{session_of}
use Rattle.fk_store.specs.Meaning as table
use Rattle.fk_store.specs.declared.cond.Cond.{Cond}
use Rattle.fk_store.specs.declared.cond.Cond.TheVariants as cond
use Rattle.fk_store.specs.declared.session_record.SessionRecord.{SessionRecord}
use Rattle.fk_store.specs.declared.write.Write.{Write}
use Rattle.fk_store.specs.declared.write.Write.TheVariants as write
use Rattle.fk_wire.specs.SentText.{sent_text}
use Rattle.fk_wire.specs.TellText.{tell_text}
use Rattle.fk_wire.specs.declared.message.Sent.{Sent}
use Rattle.fk_wire.specs.declared.message.Tell.TheVariants as tell
use Rattle.fk_wire.specs.declared.version.Version.TheVariants as version
use Rattle.fk_spec.specs.Failing.{or_fault}
use Rattle.fk_spec.specs.Function.{beat_word}
use Rattle.fk_spec.specs.Heartbeat.{Stage, next_beat, open_op}
use Rattle.fk_spec.specs.Heartbeat as stage
use Rattle.fk_spec.specs.Pings.{Noted}

-- its invocation, its session, and where it stands as a history sees it
pub record Meaning : Type 0 where
  pub inv : ℕ
  pub session : ℕ
  pub stage : Stage

-- a heartbeat that starts on a session
abbrev pub started : ℕ → ℕ → Meaning
started inv session = record { inv = inv; session = session; stage = stage.Probe }

abbrev pub is_end : Stage → Bool
is_end stage.Probe = false
is_end stage.Ping = false
is_end stage.Note = false
is_end stage.Evict = false
is_end stage.Ended = true

abbrev pub is_ended : Meaning → Bool
is_ended m = is_end m.stage

-- ---- what is read of the table

-- the noted ping of a session's record
abbrev pub noted_in : SessionRecord → Noted
noted_in r = record { ping = r.ping; moment = r.ping_at }

abbrev pub probe_op : ℕ → ℕ → ℕ → SessionRecord → Op
probe_op n now beat r = if r.closed then op.ProbeClosed n else open_op n beat now r.pong (noted_in r)

-- a ping is noted unless one of its number or beyond was
abbrev pub note_op : ℕ → SessionRecord → Op
note_op n r = if nat_lt r.ping n then op.NoteOk n else op.NoteMiss n r.ping

-- ---- the operation

-- where the services don't fail
abbrev pub calm_op : table.Meaning → post.Meaning → ℕ → ℕ → Meaning → Stage → Op
calm_op t q now beat m stage.Probe = probe_op m.inv now beat (session_of t m.session)
calm_op t q now beat m stage.Ping = op.Ping m.inv m.session
calm_op t q now beat m stage.Note = note_op m.inv (session_of t m.session)
calm_op t q now beat m stage.Evict = op.Evict m.inv ((q.lanes (lane.Session m.session)).given + 1)
calm_op t q now beat m stage.Ended = op.Idle

-- whether the service that the operation calls is armed
abbrev pub is_armed : table.Meaning → post.Meaning → Stage → Bool
is_armed t q stage.Probe = t.armed
is_armed t q stage.Ping = q.armed
is_armed t q stage.Note = t.armed
is_armed t q stage.Evict = q.armed
is_armed t q stage.Ended = false

-- The operation that a heartbeat makes on these services at this moment, where a ping is late after `beat`.
abbrev pub step_op : table.Meaning → post.Meaning → ℕ → ℕ → Meaning → Op
step_op t q now beat m = or_fault (is_armed t q m.stage) m.inv (beat_word m.stage) (calm_op t q now beat m m.stage)

-- ---- what comes after it

abbrev pub going_to : Stage → Meaning → Meaning
going_to s m = record m { stage = s }

abbrev pub next_with : Op → Meaning → Meaning
next_with o m = going_to (next_beat o) m

-- The heartbeat after its operation on these services at this moment.
abbrev pub after_step : table.Meaning → post.Meaning → ℕ → ℕ → Meaning → Meaning
after_step t q now beat m = next_with (step_op t q now beat m) m

-- no ping of this number or beyond is noted
abbrev pub note_conds : ℕ → ℕ → List Cond
note_conds n session = cond.PingBelow session n ∷ []

abbrev pub note_writes : ℕ → ℕ → ℕ → List Write
note_writes n session now = write.Ping session n now ∷ []

abbrev pub stage_table : table.Meaning → ℕ → Meaning → Stage → table.Meaning
stage_table t now m stage.Probe = table.called t
stage_table t now m stage.Ping = t
stage_table t now m stage.Note = transacted (note_conds m.inv m.session) (note_writes m.inv m.session now) t
stage_table t now m stage.Evict = t
stage_table t now m stage.Ended = t

-- The table after a heartbeat's operation at this moment.
abbrev pub table_after_step : table.Meaning → ℕ → Meaning → table.Meaning
table_after_step t now m = stage_table t now m m.stage

-- a heartbeat's close: it has seen no transaction
abbrev pub evict_sent : Sent
evict_sent = record { request = request.Close true; seen = 0 }

abbrev pub stage_post : post.Meaning → Meaning → Stage → post.Meaning
stage_post q m stage.Probe = q
stage_post q m stage.Ping = posted (lane.Inbox m.session) (tell_text version.Two (tell.Ping m.inv)) q
stage_post q m stage.Note = q
stage_post q m stage.Evict = posted (lane.Session m.session) (sent_text version.Two evict_sent) q
stage_post q m stage.Ended = q

-- The post after a heartbeat's operation.
abbrev pub post_after_step : post.Meaning → Meaning → post.Meaning
post_after_step q m = stage_post q m m.stage
