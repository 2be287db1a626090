use Rattle.fk_law_held.proofs.Holding.{held_watches_are_accounted_for}
use Rattle.fk_law_held.proofs.held_watches.held_watches_are_accounted_for.Goals as goal

pub returns : goal.returns
returns c = held_watches_are_accounted_for
