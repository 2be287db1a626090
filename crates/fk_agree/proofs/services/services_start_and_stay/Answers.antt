use Rattle.fk_agree.proofs.Serving.{new_services_stand, services_stay}
use Rattle.fk_agree.proofs.services.services_start_and_stay.Goals as goal

pub returns-clause-new : goal.returns-clause-new
returns-clause-new c = new_services_stand

pub returns-clause-stays : goal.returns-clause-stays
returns-clause-stays c = services_stay
