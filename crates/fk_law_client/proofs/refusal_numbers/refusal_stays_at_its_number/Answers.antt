use Rattle.fk_law_client.proofs.Pushed.{refusal_holds, refusal_pushed}
use Rattle.fk_law_client.proofs.refusal_numbers.refusal_stays_at_its_number.Goals as goal

pub returns-clause-number : goal.returns-clause-number
returns-clause-number c = refusal_pushed

pub returns-clause-stays : goal.returns-clause-stays
returns-clause-stays c = refusal_holds
