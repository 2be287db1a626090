use Rattle.fk_law_watch.proofs.SetWatches.{fired_watch_fired_at_its_first_change}
use Rattle.fk_law_watch.proofs.watch_laws.fired_watch_fired_at_its_first_change.Goals as goal

pub returns : goal.returns
returns c = fired_watch_fired_at_its_first_change
