use Rattle.fk_agree.proofs.Granting.{new_table_stands, records_stay}
use Rattle.fk_agree.proofs.tables.table_starts_and_stays.Goals as goal

pub returns-clause-new : goal.returns-clause-new
returns-clause-new c = new_table_stands

pub returns-clause-stays : goal.returns-clause-stays
returns-clause-stays c = records_stay
