use Rattle.fk_law_watch.proofs.SetWatches.{set_or_fired_were_given}
use Rattle.fk_law_watch.proofs.watch_laws.set_or_fired_were_given.Goals as goal

pub returns : goal.returns
returns c = set_or_fired_were_given
