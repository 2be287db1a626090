use Rattle.fk_agree.proofs.Watching.{new_watches_stand, watches_stay}
use Rattle.fk_agree.proofs.watches.watches_start_and_stay.Goals as goal

pub returns-clause-new : goal.returns-clause-new
returns-clause-new c = new_watches_stand

pub returns-clause-stays : goal.returns-clause-stays
returns-clause-stays c = watches_stay
