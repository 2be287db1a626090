use Rattle.fk_law_reply.proofs.Causes.{refusals_have_their_cause}
use Rattle.fk_law_reply.proofs.replies.refusals_have_their_cause.Goals as goal

pub returns : goal.returns
returns c = refusals_have_their_cause
