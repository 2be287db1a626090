use Rattle.fk_agree_client.proofs.Inbox.{head_is_what_it_tells, inbox_says_its_messages}
use Rattle.fk_agree_client.proofs.inboxes.inbox_says_its_messages.Goals as goal

pub returns-clause-says : goal.returns-clause-says
returns-clause-says c = inbox_says_its_messages

pub returns-clause-head : goal.returns-clause-head
returns-clause-head c = head_is_what_it_tells
