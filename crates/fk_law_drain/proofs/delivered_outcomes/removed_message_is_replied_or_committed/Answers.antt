use Rattle.fk_law_drain.proofs.Delivering.{removed_message_is_replied_or_committed}
use Rattle.fk_law_drain.proofs.delivered_outcomes.removed_message_is_replied_or_committed.Goals as goal

pub returns : goal.returns
returns c = removed_message_is_replied_or_committed
