use Rattle.std.proofs.Common.{◌≡◌, ℕ, List, refl}
use Rattle.fk_queue.specs.declared.answer.Ack.{Ack}
use Rattle.fk_queue.specs.declared.answer.Ack.TheVariants as ack
use Rattle.fk_queue.specs.declared.answer.Posted.{Posted}
use Rattle.fk_queue.specs.declared.answer.Posted.TheVariants as posted
use Rattle.fk_queue.specs.declared.lane.Lane.{Lane}
use Rattle.fk_queue.specs.Answers.{after_ack, after_push}
use Rattle.fk_queue.specs.Meaning.{Meaning}
use Rattle.fk_queue.proofs.laws.sessions_stay.Goals as goal

pushed_sessions : (m : Meaning) (l : Lane) (bytes : List ℕ) (r : Posted) → (after_push m l bytes r).sessions ≡ m.sessions
pushed_sessions m l bytes (posted.At n) = refl
pushed_sessions m l bytes posted.Failed = refl
pushed_sessions m l bytes posted.NoMemory = refl

acked_sessions : (m : Meaning) (l : Lane) (r : Ack) → (after_ack m l r).sessions ≡ m.sessions
acked_sessions m l ack.Acked = refl
acked_sessions m l ack.NotHead = refl
acked_sessions m l ack.Failed = refl

pub returns : goal.returns
returns c = λ m l. (pushed_sessions m l, acked_sessions m l)
