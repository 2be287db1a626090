use Rattle.fk_law.proofs.Growing.{published_stays}
use Rattle.fk_law.proofs.longer_histories.published_stays.Goals as goal

pub returns : goal.returns
returns c = published_stays
