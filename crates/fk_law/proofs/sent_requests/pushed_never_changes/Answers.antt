use Rattle.fk_law.proofs.Sending.{pushed_never_changes}
use Rattle.fk_law.proofs.sent_requests.pushed_never_changes.Goals as goal

pub returns : goal.returns
returns c = pushed_never_changes
