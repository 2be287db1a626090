-- What an acknowledgement's operation is, by the lane's head.
use Rattle.std.specs.Prelude.{◌==◌}
use Rattle.std.proofs.Common.{◌≡◌, ℕ, Bool, true, false, cond, Option, Some, None, refl}
use Rattle.fk_print.specs.declared.op.Op.TheVariants as op
use Rattle.fk_print.specs.declared.op.Word.TheVariants as word
use Rattle.fk_queue.specs.Answers.{ack_of, is_number}
use Rattle.fk_queue.specs.Letters.{head_number}
use Rattle.fk_queue.specs.Meaning as post
use Rattle.fk_queue.specs.declared.answer.Ack.TheVariants as ack
use Rattle.fk_queue.specs.declared.lane.Lane.{Lane}
use Rattle.fk_spec.specs.Failing.{or_fault}
use Rattle.fk_spec.specs.Follower.{ack_op}
use Rattle.fk_stand.specs.Acks.{ack_by}

ack_chosen : (n k : ℕ) (a : Bool) (o : Option ℕ) → ack_by n (cond a ack.Failed (cond (is_number k o) ack.Acked ack.NotHead)) ≡ cond a (op.Fault n word.Ack) (ack_op n k o)
ack_chosen n k true o = refl
ack_chosen n k false None = refl
ack_chosen n k false (Some m) = step (m == k)
  where
    step : (b : Bool) → ack_by n (cond b ack.Acked ack.NotHead) ≡ cond b (op.AckOk n) (op.AckGone n)
    step true = refl
    step false = refl

pub ack_said : (q : post.Meaning) (l : Lane) (n k : ℕ) → ack_by n (ack_of q l k) ≡ or_fault q.armed n word.Ack (ack_op n k (head_number (q.lanes l)))
ack_said q l n k = ack_chosen n k q.armed (head_number (q.lanes l))
