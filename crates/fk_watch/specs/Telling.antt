-- The watch function: what it means, its operation, and what comes after it.
use Rattle.std.specs.Prelude.{ℕ, Bool, true, false, if◌then◌else◌}
use Rattle.fk_print.specs.declared.op.Op.{Op}
use Rattle.fk_print.specs.declared.op.Op.TheVariants as op
use Rattle.fk_queue.specs.Answers.{ack_of, after_ack}
use Rattle.fk_queue.specs.Letters.{head_number}
use Rattle.fk_queue.specs.Meaning as post
use Rattle.fk_queue.specs.Meaning.{posted}
use Rattle.fk_queue.specs.declared.lane.Lane.TheVariants as lane
use Rattle.fk_wire.specs.TellText.{tell_text}
use Rattle.fk_wire.specs.declared.message.Note.{Note}
use Rattle.fk_wire.specs.declared.version.Version.TheVariants as version
use Rattle.fk_spec.specs.Failing.{or_fault}
use Rattle.fk_spec.specs.Follower.{ack_op}
use Rattle.fk_spec.specs.Function.{teller_word}
use Rattle.fk_spec.specs.Teller.{Stage, next_teller, to_tell}
use Rattle.fk_spec.specs.Teller as stage
use Rattle.fk_watch.specs.Meaning.{Watches, failed}
use Rattle.fk_watch.specs.Notes.{firings_as, watch_tell}
use Rattle.fk_watch.specs.Sweeping.{told_for}

-- its invocation, the number of its note in the watch lane, the push that fired the watches of the note, and where it
-- stands as a history sees it
pub record Meaning : Type 0 where
  pub inv : ℕ
  pub number : ℕ
  pub tx : ℕ
  pub stage : Stage

-- a watch function that starts on a note
abbrev pub started : ℕ → ℕ → Note → Meaning
started inv number note = record {
  inv = inv;
  number = number;
  tx = note.tx;
  stage = to_tell (firings_as note.tx note.fired);
}

abbrev pub is_end : Stage → Bool
is_end (stage.Tell firing others) = false
is_end stage.Told = false
is_end stage.Ack = false
is_end stage.Ended = true

abbrev pub is_ended : Meaning → Bool
is_ended m = is_end m.stage

-- ---- the operation

-- where the services don't fail
abbrev pub calm_op : post.Meaning → Meaning → Stage → Op
calm_op q m (stage.Tell firing others) = op.Tell m.inv firing.watch.session firing.watch.id
calm_op q m stage.Told = op.Told m.inv m.tx
calm_op q m stage.Ack = ack_op m.inv m.number (head_number (q.lanes lane.Watch))
calm_op q m stage.Ended = op.Idle

-- whether the service that the operation calls is armed
abbrev pub is_armed : post.Meaning → Watches → Stage → Bool
is_armed q w (stage.Tell firing others) = q.armed
is_armed q w stage.Told = w.armed
is_armed q w stage.Ack = q.armed
is_armed q w stage.Ended = false

-- The operation that a watch function makes on these services.
abbrev pub step_op : post.Meaning → Watches → Meaning → Op
step_op q w m = or_fault (is_armed q w m.stage) m.inv (teller_word m.stage) (calm_op q m m.stage)

-- ---- what comes after it

abbrev pub going_to : Stage → Meaning → Meaning
going_to s m = record m { stage = s }

abbrev pub next_with : Op → Meaning → Meaning
next_with o m = going_to (next_teller o m.stage) m

-- The watch function after its operation on these services.
abbrev pub after_step : post.Meaning → Watches → Meaning → Meaning
after_step q w m = next_with (step_op q w m) m

abbrev pub stage_post : post.Meaning → Meaning → Stage → post.Meaning
stage_post q m (stage.Tell firing others) =
    posted (lane.Inbox firing.watch.session) (tell_text version.Two (watch_tell firing)) q
stage_post q m stage.Told = q
stage_post q m stage.Ack = after_ack q lane.Watch (ack_of q lane.Watch m.number)
stage_post q m stage.Ended = q

-- The post after a watch function's operation.
abbrev pub post_after_step : post.Meaning → Meaning → post.Meaning
post_after_step q m = stage_post q m m.stage

-- the watches of a push are told
abbrev pub told_at : ℕ → Watches → Watches
told_at tx w = if w.armed then failed w else told_for tx w

abbrev pub stage_watches : Watches → Meaning → Stage → Watches
stage_watches w m (stage.Tell firing others) = w
stage_watches w m stage.Told = told_at m.tx w
stage_watches w m stage.Ack = w
stage_watches w m stage.Ended = w

-- The table of watches after a watch function's operation.
abbrev pub watches_after_step : Watches → Meaning → Watches
watches_after_step w m = stage_watches w m m.stage
