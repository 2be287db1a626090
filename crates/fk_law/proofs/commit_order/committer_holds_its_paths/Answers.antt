use Rattle.fk_law.proofs.Rising.{committer_holds}
use Rattle.fk_law.proofs.commit_order.committer_holds_its_paths.Goals as goal

pub returns : goal.returns
returns c = committer_holds
