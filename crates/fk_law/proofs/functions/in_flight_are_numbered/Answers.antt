use Rattle.fk_law.proofs.Starting.{place_bound}
use Rattle.fk_law.proofs.functions.in_flight_are_numbered.Goals as goal

pub returns : goal.returns
returns c = place_bound
