use Rattle.fk_law.proofs.Losing.{lock_miss_is_dead}
use Rattle.fk_law.proofs.lost_locks.lock_miss_is_dead.Goals as goal

pub returns : goal.returns
returns c = lock_miss_is_dead
