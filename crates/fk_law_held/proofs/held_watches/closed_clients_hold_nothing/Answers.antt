use Rattle.fk_law_held.proofs.Holding.{closed_clients_hold_nothing}
use Rattle.fk_law_held.proofs.held_watches.closed_clients_hold_nothing.Goals as goal

pub returns : goal.returns
returns c = closed_clients_hold_nothing
