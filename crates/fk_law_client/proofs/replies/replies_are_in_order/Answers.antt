use Rattle.fk_law_client.proofs.Printing.{replies_ordered}
use Rattle.fk_law_client.proofs.replies.replies_are_in_order.Goals as goal

pub returns : goal.returns
returns c = replies_ordered
