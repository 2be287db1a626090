use Rattle.fk_law_watch.proofs.SetWatches.{watch_is_set_or_fired}
use Rattle.fk_law_watch.proofs.watch_laws.watch_is_set_or_fired.Goals as goal

pub returns : goal.returns
returns c = watch_is_set_or_fired
