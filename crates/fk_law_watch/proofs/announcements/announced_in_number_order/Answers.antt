use Rattle.fk_law_watch.proofs.Telling.{announced_in_number_order}
use Rattle.fk_law_watch.proofs.announcements.announced_in_number_order.Goals as goal

pub returns : goal.returns
returns c = announced_in_number_order
