use Rattle.fk_law_held.proofs.Announcing.{inbox_tells_of_announced_watches}
use Rattle.fk_law_held.proofs.announced_watches.inbox_tells_of_announced_watches.Goals as goal

pub returns : goal.returns
returns c = inbox_tells_of_announced_watches
