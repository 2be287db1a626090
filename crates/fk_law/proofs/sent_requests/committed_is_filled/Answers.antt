use Rattle.fk_law.proofs.Sending.{committed_is_filled}
use Rattle.fk_law.proofs.sent_requests.committed_is_filled.Goals as goal

pub returns : goal.returns
returns c = committed_is_filled
