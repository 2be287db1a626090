use Rattle.fk_agree.proofs.Messages.{message_never_changes, push_has_its_message}
use Rattle.fk_agree.proofs.pushes.push_has_its_message.Goals as goal

pub returns-clause-has : goal.returns-clause-has
returns-clause-has c = push_has_its_message

pub returns-clause-keeps : goal.returns-clause-keeps
returns-clause-keeps c = message_never_changes
