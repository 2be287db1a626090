use Rattle.fk_law.proofs.Growing.{committed_stays}
use Rattle.fk_law.proofs.longer_histories.committed_stays.Goals as goal

pub returns : goal.returns
returns c = committed_stays
