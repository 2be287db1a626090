use Rattle.std.proofs.Common.{length}
use Rattle.fk_live.proofs.choosing.+free_delivery.Given as goal

abbrev pub decreases-free_delivery : goal.decreases-free_delivery
decreases-free_delivery g l = length l.blocks.now
