use Rattle.fk_queue.proofs.Counting as counting
use Rattle.fk_queue.proofs.laws.ack_takes_one.Goals as goal

pub returns : goal.returns
returns c = λ m l h a. counting.ack_takes_one m.sessions m.lanes l h a
