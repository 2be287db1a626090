use Rattle.std.proofs.Common.{length}
use Rattle.fk_client.proofs.lists.+contains.Given as goal

abbrev pub decreases-contains : goal.decreases-contains
decreases-contains l = length l.numbers.now
