use Rattle.fk_law_watch.proofs.Registering.{watches_are_registered}
use Rattle.fk_law_watch.proofs.registrations.watches_are_registered.Goals as goal

pub returns : goal.returns
returns c = watches_are_registered
