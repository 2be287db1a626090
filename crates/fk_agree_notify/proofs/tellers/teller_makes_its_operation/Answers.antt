use Rattle.fk_agree_notify.proofs.Telling.{teller_makes_its_operation, teller_fails}
use Rattle.fk_agree_notify.proofs.tellers.teller_makes_its_operation.Goals as goal

pub returns-clause-op : goal.returns-clause-op
returns-clause-op c = teller_makes_its_operation

pub returns-clause-fault : goal.returns-clause-fault
returns-clause-fault c = teller_fails
