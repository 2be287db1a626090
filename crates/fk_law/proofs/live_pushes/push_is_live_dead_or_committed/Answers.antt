use Rattle.fk_law.proofs.Living.{live_dead_or_committed}
use Rattle.fk_law.proofs.live_pushes.push_is_live_dead_or_committed.Goals as goal

pub returns : goal.returns
returns c = live_dead_or_committed
