use Rattle.std.proofs.Common.{length}
use Rattle.fk_live.proofs.choosing.+free_turn.Given as goal

abbrev pub decreases-free_turn : goal.decreases-free_turn
decreases-free_turn g l = length l.blocks.now
