use Rattle.fk_queue.proofs.Counting as counting
use Rattle.fk_queue.proofs.laws.ack_frees_blocks.Goals as goal

pub returns : goal.returns
returns c = λ m l h. counting.ack_frees_blocks m.sessions m.lanes l h
