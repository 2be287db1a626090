use Rattle.fk_law.proofs.Lasting.{refusal_holds_for_ever}
use Rattle.fk_law.proofs.Refusing.{closed_at_its_number, refusal_holds_at_its_number}
use Rattle.fk_law.proofs.refusals.refusal_holds_at_its_number.Goals as goal

pub returns-clause-closed : goal.returns-clause-closed
returns-clause-closed c = closed_at_its_number

pub returns-clause-holds : goal.returns-clause-holds
returns-clause-holds c = refusal_holds_at_its_number

pub returns-clause-stays : goal.returns-clause-stays
returns-clause-stays c = refusal_holds_for_ever
