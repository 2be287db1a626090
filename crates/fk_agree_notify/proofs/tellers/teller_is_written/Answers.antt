use Rattle.fk_agree_notify.proofs.TellerServices.{teller_is_written, teller_fault_is_written}
use Rattle.fk_agree_notify.proofs.tellers.teller_is_written.Goals as goal

pub returns-clause-op : goal.returns-clause-op
returns-clause-op c = teller_is_written

pub returns-clause-fault : goal.returns-clause-fault
returns-clause-fault c = teller_fault_is_written
