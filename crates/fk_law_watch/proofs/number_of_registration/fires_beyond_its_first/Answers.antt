use Rattle.fk_law_watch.proofs.FirstNumbers.{fires_beyond_its_first}
use Rattle.fk_law_watch.proofs.number_of_registration.fires_beyond_its_first.Goals as goal

pub returns : goal.returns
returns c = fires_beyond_its_first
