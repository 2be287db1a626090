use Rattle.fk_agree_notify.proofs.Telling.{teller_starts}
use Rattle.fk_agree_notify.proofs.tellers.teller_starts.Goals as goal

pub returns : goal.returns
returns c = teller_starts
