use Rattle.fk_law_reply.proofs.Ledger.{commands_of_an_operation_are_entered, kept_commands_are_entered}
use Rattle.fk_law_reply.proofs.sent_numbers.kept_commands_are_entered.Goals as goal

pub returns-clause-kept : goal.returns-clause-kept
returns-clause-kept c = kept_commands_are_entered

pub returns-clause-after : goal.returns-clause-after
returns-clause-after c = commands_of_an_operation_are_entered
