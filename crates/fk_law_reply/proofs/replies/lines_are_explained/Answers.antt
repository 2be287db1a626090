use Rattle.fk_law_reply.proofs.Explaining.{lines_are_explained}
use Rattle.fk_law_reply.proofs.replies.lines_are_explained.Goals as goal

pub returns : goal.returns
returns c = lines_are_explained
