use Rattle.fk_agree_notify.proofs.Telling.{teller_goes_on, others_leave_tellers}
use Rattle.fk_agree_notify.proofs.tellers.teller_goes_on.Goals as goal

pub returns-clause-own : goal.returns-clause-own
returns-clause-own c = teller_goes_on

pub returns-clause-others : goal.returns-clause-others
returns-clause-others c = others_leave_tellers
