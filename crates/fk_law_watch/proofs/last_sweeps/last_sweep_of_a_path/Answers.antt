use Rattle.fk_law_watch.proofs.Sweeps.{last_sweep_of_a_path}
use Rattle.fk_law_watch.proofs.last_sweeps.last_sweep_of_a_path.Goals as goal

pub returns : goal.returns
returns c = last_sweep_of_a_path
