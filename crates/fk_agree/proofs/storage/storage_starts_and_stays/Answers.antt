use Rattle.fk_agree.proofs.Putting.{new_store_stands, store_stays}
use Rattle.fk_agree.proofs.storage.storage_starts_and_stays.Goals as goal

pub returns-clause-new : goal.returns-clause-new
returns-clause-new c = new_store_stands

pub returns-clause-stays : goal.returns-clause-stays
returns-clause-stays c = store_stays
