use Rattle.fk_client.proofs.Same.{makes_the_same}
use Rattle.fk_client.proofs.knowing.makes_the_same_op.Goals as goal

pub returns : goal.returns
returns c = makes_the_same
