use Rattle.fk_law.proofs.Sending.{committed_never_changes}
use Rattle.fk_law.proofs.sent_requests.committed_never_changes.Goals as goal

pub returns : goal.returns
returns c = committed_never_changes
