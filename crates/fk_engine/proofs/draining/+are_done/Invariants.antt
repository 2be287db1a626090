use Rattle.std.proofs.Common.{length}
use Rattle.fk_engine.proofs.draining.+are_done.Given as goal

abbrev pub decreases-are_done : goal.decreases-are_done
decreases-are_done l = length l.clients.now
