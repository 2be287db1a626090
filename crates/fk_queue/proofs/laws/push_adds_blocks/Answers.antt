use Rattle.fk_queue.proofs.Counting as counting
use Rattle.fk_queue.proofs.laws.push_adds_blocks.Goals as goal

pub returns : goal.returns
returns c = λ m l bytes h. counting.push_adds_blocks m.sessions m.lanes l bytes h
