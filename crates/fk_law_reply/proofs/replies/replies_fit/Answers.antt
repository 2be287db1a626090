use Rattle.fk_law_reply.proofs.Fitting.{replies_fit_the_tree}
use Rattle.fk_law_reply.proofs.replies.replies_fit.Goals as goal

pub returns : goal.returns
returns c = replies_fit_the_tree
