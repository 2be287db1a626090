use Rattle.fk_queue.proofs.Counting as counting
use Rattle.fk_queue.proofs.laws.none_waits_where_empty.Goals as goal

pub returns : goal.returns
returns c = λ m. (counting.empty_where_none_waits m.sessions m.lanes, counting.none_waits_where_empty m.sessions m.lanes)
