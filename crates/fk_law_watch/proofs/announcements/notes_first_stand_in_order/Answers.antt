use Rattle.fk_law_watch.proofs.Telling.{notes_first_stand_in_order}
use Rattle.fk_law_watch.proofs.announcements.notes_first_stand_in_order.Goals as goal

pub returns : goal.returns
returns c = notes_first_stand_in_order
