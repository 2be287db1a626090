use Rattle.fk_law_watch.proofs.Sweeps.{sweeps_rise}
use Rattle.fk_law_watch.proofs.last_sweeps.sweeps_rise.Goals as goal

pub returns : goal.returns
returns c = sweeps_rise
