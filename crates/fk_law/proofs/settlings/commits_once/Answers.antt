use Rattle.fk_law.proofs.Committing.{commits_once}
use Rattle.fk_law.proofs.settlings.commits_once.Goals as goal

pub returns : goal.returns
returns c = commits_once
