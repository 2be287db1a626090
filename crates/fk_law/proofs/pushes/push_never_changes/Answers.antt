use Rattle.fk_law.proofs.Pushing.{push_never_changes}
use Rattle.fk_law.proofs.pushes.push_never_changes.Goals as goal

pub returns : goal.returns
returns c = push_never_changes
