use Rattle.std.proofs.Common.{length}
use Rattle.fk_engine.proofs.draining.+deliver_first.Given as goal

abbrev pub decreases-deliver_first : goal.decreases-deliver_first
decreases-deliver_first l = length l.clients.now
