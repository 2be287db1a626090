use Rattle.fk_client.proofs.Same.{comes_to_the_same}
use Rattle.fk_client.proofs.knowing.comes_to_the_same.Goals as goal

pub returns : goal.returns
returns c = comes_to_the_same
