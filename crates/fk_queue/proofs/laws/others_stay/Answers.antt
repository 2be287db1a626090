use Rattle.std.proofs.Common.{◌≡◌, ℕ, false, cond, List, refl, ap}
use Rattle.fk_queue.specs.declared.answer.Ack.{Ack}
use Rattle.fk_queue.specs.declared.answer.Ack.TheVariants as ack
use Rattle.fk_queue.specs.declared.answer.Posted.{Posted}
use Rattle.fk_queue.specs.declared.answer.Posted.TheVariants as posted
use Rattle.fk_queue.specs.declared.lane.Lane.{Lane}
use Rattle.fk_queue.specs.Answers.{after_ack, after_push}
use Rattle.fk_queue.specs.Lanes.{same_lane}
use Rattle.fk_queue.specs.Letters.{with_letter, without_head}
use Rattle.fk_queue.specs.Meaning.{Meaning}
use Rattle.fk_queue.proofs.laws.others_stay.Goals as goal

pushed_others : (m : Meaning) (l q : Lane) → same_lane q l ≡ false → (bytes : List ℕ) (r : Posted) → (after_push m l bytes r).lanes q ≡ m.lanes q
pushed_others m l q e bytes (posted.At n) = ap (λ b. cond b (with_letter bytes (m.lanes l)) (m.lanes q)) e
pushed_others m l q e bytes posted.Failed = refl
pushed_others m l q e bytes posted.NoMemory = refl

acked_others : (m : Meaning) (l q : Lane) → same_lane q l ≡ false → (r : Ack) → (after_ack m l r).lanes q ≡ m.lanes q
acked_others m l q e ack.Acked = ap (λ b. cond b (without_head (m.lanes l)) (m.lanes q)) e
acked_others m l q e ack.NotHead = refl
acked_others m l q e ack.Failed = refl

pub returns : goal.returns
returns c = λ m l q e. (pushed_others m l q e, acked_others m l q e)
