use Rattle.fk_law_held.proofs.Differing.{held_watches_differ}
use Rattle.fk_law_held.proofs.held_watches.held_watches_differ.Goals as goal

pub returns : goal.returns
returns c = held_watches_differ
