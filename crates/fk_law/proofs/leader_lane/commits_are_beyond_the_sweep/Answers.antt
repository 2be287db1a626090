use Rattle.fk_law.proofs.Leading.{commits_are_beyond_the_sweep}
use Rattle.fk_law.proofs.leader_lane.commits_are_beyond_the_sweep.Goals as goal

pub returns : goal.returns
returns c = commits_are_beyond_the_sweep
