use Rattle.fk_law_watch.proofs.Telling.{announced_has_fired}
use Rattle.fk_law_watch.proofs.announcements.announced_has_fired.Goals as goal

pub returns : goal.returns
returns c = announced_has_fired
