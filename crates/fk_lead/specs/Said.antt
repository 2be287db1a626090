-- The operation of each answer, and what came with it.
use Rattle.std.specs.Prelude.{ℕ, nat_lt, if◌then◌else◌, length}
use Rattle.fk_base.specs.Path.{PathNames}
use Rattle.fk_print.specs.declared.op.Op.{Op}
use Rattle.fk_print.specs.declared.op.Op.TheVariants as op
use Rattle.fk_print.specs.declared.op.Word.TheVariants as word
use Rattle.fk_store.specs.Meaning.{Meaning}
use Rattle.fk_user.specs.declared.answer.Publish.{Publish}
use Rattle.fk_user.specs.declared.answer.Publish.TheVariants as publish
use Rattle.fk_user.specs.declared.answer.PutRecord.{PutRecord}
use Rattle.fk_user.specs.declared.answer.PutRecord.TheVariants as put
use Rattle.fk_watch.specs.declared.answer.Sweep.{Sweep}
use Rattle.fk_watch.specs.declared.answer.Sweep.TheVariants as sweep
use Rattle.fk_lead.specs.Meaning.{Swept, nothing_swept}
use Rattle.fk_lead.specs.declared.finishing.Finish.{Finish}
use Rattle.fk_lead.specs.declared.finishing.Finish.TheVariants as finish

-- what becomes of finishing a push in this table
abbrev pub finish_of : Meaning → ℕ → Finish
finish_of t tx = if t.armed then finish.Failed else if nat_lt t.done tx then finish.Done else finish.Already t.done

abbrev pub drop_by : ℕ → ℕ → Finish → Op
drop_by n tx finish.Done = op.DropOk n tx
drop_by n tx (finish.Already done) = op.DropMiss n tx done
drop_by n tx finish.Failed = op.Fault n word.Drop

abbrev pub done_by : ℕ → ℕ → Finish → Op
done_by n tx finish.Done = op.DoneOk n tx
done_by n tx (finish.Already done) = op.DoneMiss n tx done
done_by n tx finish.Failed = op.Fault n word.Done

abbrev pub sweep_by : ℕ → ℕ → Sweep → Op
sweep_by n tx (sweep.Fired fired epoch) = op.SweepOk n tx (length fired)
sweep_by n tx (sweep.Already swept fired epoch) = op.SweepMiss n tx swept (length fired)
sweep_by n tx sweep.Failed = op.Fault n word.Sweep
sweep_by n tx sweep.NoMemory = op.Idle

-- what came with a sweep's answer
abbrev pub swept_by : Sweep → Swept
swept_by (sweep.Fired fired epoch) = record { fired = fired; epoch = epoch }
swept_by (sweep.Already swept fired epoch) = record { fired = fired; epoch = epoch }
swept_by sweep.Failed = nothing_swept
swept_by sweep.NoMemory = nothing_swept

abbrev pub put_by : ℕ → ℕ → PathNames → PutRecord → Op
put_by n tx path put.Done = op.PutOk n tx path
put_by n tx path (put.Already stamp) = op.PutMiss n tx path stamp
put_by n tx path put.Failed = op.Fault n word.Put
put_by n tx path put.NoMemory = op.Idle

abbrev pub publish_by : ℕ → ℕ → Publish → Op
publish_by n tx publish.Done = op.PublishOk n tx
publish_by n tx (publish.Already mark) = op.PublishMiss n tx mark
publish_by n tx publish.Failed = op.Fault n word.Publish
publish_by n tx publish.NoMemory = op.Idle
