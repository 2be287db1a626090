use Rattle.std.proofs.Common.{length}
use Rattle.fk_live.proofs.choosing.+is_taken.Given as goal

abbrev pub decreases-is_taken : goal.decreases-is_taken
decreases-is_taken g l = length l.workers.now
