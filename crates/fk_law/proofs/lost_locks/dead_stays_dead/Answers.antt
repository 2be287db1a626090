use Rattle.fk_law.proofs.Losing.{dead_forever}
use Rattle.fk_law.proofs.lost_locks.dead_stays_dead.Goals as goal

pub returns : goal.returns
returns c = dead_forever
