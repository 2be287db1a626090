use Rattle.fk_law_watch.proofs.SetWatches.{set_watches_differ}
use Rattle.fk_law_watch.proofs.watch_laws.set_watches_differ.Goals as goal

pub returns : goal.returns
returns c = set_watches_differ
