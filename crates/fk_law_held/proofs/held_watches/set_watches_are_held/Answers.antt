use Rattle.fk_law_held.proofs.Differing.{set_watches_are_held}
use Rattle.fk_law_held.proofs.held_watches.set_watches_are_held.Goals as goal

pub returns : goal.returns
returns c = set_watches_are_held
