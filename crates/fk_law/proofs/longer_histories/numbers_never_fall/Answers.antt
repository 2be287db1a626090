use Rattle.fk_law.proofs.Growing.{numbers_never_fall}
use Rattle.fk_law.proofs.longer_histories.numbers_never_fall.Goals as goal

pub returns : goal.returns
returns c = numbers_never_fall
