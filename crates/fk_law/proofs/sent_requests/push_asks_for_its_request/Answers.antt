use Rattle.fk_law.proofs.Sending.{push_asks_for_its_request}
use Rattle.fk_law.proofs.sent_requests.push_asks_for_its_request.Goals as goal

pub returns : goal.returns
returns c = push_asks_for_its_request
