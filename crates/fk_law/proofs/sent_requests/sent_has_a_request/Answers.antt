use Rattle.fk_law.proofs.Sending.{sent_has_a_request}
use Rattle.fk_law.proofs.sent_requests.sent_has_a_request.Goals as goal

pub returns : goal.returns
returns c = sent_has_a_request
