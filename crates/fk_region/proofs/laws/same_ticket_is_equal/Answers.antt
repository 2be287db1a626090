use Rattle.fk_region.proofs.Keeping.{same_is, same_self}
use Rattle.fk_region.proofs.laws.same_ticket_is_equal.Goals as goal

pub returns : goal.returns
returns c = (same_is, same_self)
