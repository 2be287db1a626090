use Rattle.fk_law.proofs.Committing.{committed_push}
use Rattle.fk_law.proofs.settlings.committed_is_settled.Goals as goal

pub returns : goal.returns
returns c = committed_push
