use Rattle.fk_law.proofs.Settled.{settles_the_next}
use Rattle.fk_law.proofs.settlings.settles_the_next.Goals as goal

pub returns : goal.returns
returns c = settles_the_next
