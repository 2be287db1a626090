use Rattle.fk_law_watch.proofs.SetWatches.{firing_never_changes}
use Rattle.fk_law_watch.proofs.watch_laws.firing_never_changes.Goals as goal

pub returns : goal.returns
returns c = firing_never_changes
