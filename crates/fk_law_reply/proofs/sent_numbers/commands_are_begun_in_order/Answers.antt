use Rattle.fk_law_reply.proofs.Ledger.{begun_never_falls, only_begun_were_sent, sent_number_never_changes}
use Rattle.fk_law_reply.proofs.sent_numbers.commands_are_begun_in_order.Goals as goal

pub returns-clause-rises : goal.returns-clause-rises
returns-clause-rises c = begun_never_falls

pub returns-clause-sent : goal.returns-clause-sent
returns-clause-sent c = only_begun_were_sent

pub returns-clause-number : goal.returns-clause-number
returns-clause-number c = sent_number_never_changes
