use Rattle.fk_agree_notify.proofs.Telling.{teller_is_fit}
use Rattle.fk_agree_notify.proofs.tellers.teller_is_fit.Goals as goal

pub returns : goal.returns
returns c = teller_is_fit
