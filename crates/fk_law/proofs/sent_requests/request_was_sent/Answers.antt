use Rattle.fk_law.proofs.Sending.{request_was_sent}
use Rattle.fk_law.proofs.sent_requests.request_was_sent.Goals as goal

pub returns : goal.returns
returns c = request_was_sent
