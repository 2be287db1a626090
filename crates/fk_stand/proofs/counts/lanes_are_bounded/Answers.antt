use Rattle.fk_stand.proofs.Counting.{lanes_are_bounded}
use Rattle.fk_stand.proofs.counts.lanes_are_bounded.Goals as goal

pub returns : goal.returns
returns c = lanes_are_bounded
