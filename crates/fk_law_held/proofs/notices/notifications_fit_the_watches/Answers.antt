use Rattle.fk_law_held.proofs.Noticing.{notifications_fit_the_watches}
use Rattle.fk_law_held.proofs.notices.notifications_fit_the_watches.Goals as goal

pub returns : goal.returns
returns c = notifications_fit_the_watches
