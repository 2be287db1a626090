use Rattle.fk_law_watch.proofs.Telling.{told_push_is_announced}
use Rattle.fk_law_watch.proofs.announcements.told_push_is_announced.Goals as goal

pub returns : goal.returns
returns c = told_push_is_announced
