-- The operation of the answer to an acknowledgement.
use Rattle.std.specs.Prelude.{ℕ}
use Rattle.fk_print.specs.declared.op.Op.{Op}
use Rattle.fk_print.specs.declared.op.Op.TheVariants as op
use Rattle.fk_print.specs.declared.op.Word.TheVariants as word
use Rattle.fk_queue.specs.declared.answer.Ack.{Ack}
use Rattle.fk_queue.specs.declared.answer.Ack.TheVariants as ack

abbrev pub ack_by : ℕ → Ack → Op
ack_by n ack.Acked = op.AckOk n
ack_by n ack.NotHead = op.AckGone n
ack_by n ack.Failed = op.Fault n word.Ack
