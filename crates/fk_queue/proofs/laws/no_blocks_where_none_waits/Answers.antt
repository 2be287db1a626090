use Rattle.fk_queue.proofs.Counting as counting
use Rattle.fk_queue.proofs.laws.no_blocks_where_none_waits.Goals as goal

pub returns : goal.returns
returns c = λ m. counting.no_blocks_where_none_waits m.sessions m.lanes
