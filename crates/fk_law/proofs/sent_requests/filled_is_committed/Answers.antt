use Rattle.fk_law.proofs.Sending.{filled_is_committed}
use Rattle.fk_law.proofs.sent_requests.filled_is_committed.Goals as goal

pub returns : goal.returns
returns c = filled_is_committed
