use Rattle.std.proofs.Common.{length}
use Rattle.fk_engine.proofs.draining.+turn_first.Given as goal

abbrev pub decreases-turn_first : goal.decreases-turn_first
decreases-turn_first l = length l.clients.now
