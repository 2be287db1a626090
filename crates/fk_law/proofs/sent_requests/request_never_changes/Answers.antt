use Rattle.fk_law.proofs.Sending.{request_never_changes}
use Rattle.fk_law.proofs.sent_requests.request_never_changes.Goals as goal

pub returns : goal.returns
returns c = request_never_changes
