use Rattle.fk_law_client.proofs.Messages.{inbox_messages}
use Rattle.fk_law_client.proofs.inboxes.inbox_messages_are_true.Goals as goal

pub returns : goal.returns
returns c = inbox_messages
