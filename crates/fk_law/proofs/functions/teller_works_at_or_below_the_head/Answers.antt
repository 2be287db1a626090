use Rattle.fk_law.proofs.Starting.{teller_at_or_below_the_head}
use Rattle.fk_law.proofs.functions.teller_works_at_or_below_the_head.Goals as goal

pub returns : goal.returns
returns c = teller_at_or_below_the_head
