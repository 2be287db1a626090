use Rattle.fk_law_watch.proofs.SetWatches.{fires_once}
use Rattle.fk_law_watch.proofs.watch_laws.fires_once.Goals as goal

pub returns : goal.returns
returns c = fires_once
