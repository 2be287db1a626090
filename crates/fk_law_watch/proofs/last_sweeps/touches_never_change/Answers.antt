use Rattle.fk_law_watch.proofs.Sweeps.{touches_never_change}
use Rattle.fk_law_watch.proofs.last_sweeps.touches_never_change.Goals as goal

pub returns : goal.returns
returns c = touches_never_change
