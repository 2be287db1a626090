use Rattle.fk_law_held.proofs.Noticing.{held_are_behind_notices}
use Rattle.fk_law_held.proofs.Ordering.{inbox_is_in_order}
use Rattle.fk_law_held.proofs.notices.inbox_is_in_order.Goals as goal

pub returns-clause-inbox : goal.returns-clause-inbox
returns-clause-inbox c = inbox_is_in_order

pub returns-clause-last : goal.returns-clause-last
returns-clause-last c = held_are_behind_notices
