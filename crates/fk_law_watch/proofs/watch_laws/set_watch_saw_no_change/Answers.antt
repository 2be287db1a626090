use Rattle.fk_law_watch.proofs.SetWatches.{set_watch_saw_no_change}
use Rattle.fk_law_watch.proofs.watch_laws.set_watch_saw_no_change.Goals as goal

pub returns : goal.returns
returns c = set_watch_saw_no_change
