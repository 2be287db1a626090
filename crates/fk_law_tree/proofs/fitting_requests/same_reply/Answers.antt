use Rattle.fk_law_tree.proofs.Matching.{same_reply}
use Rattle.fk_law_tree.proofs.fitting_requests.same_reply.Goals as goal

pub returns : goal.returns
returns c = same_reply
