use Rattle.fk_law_drain.proofs.Looking.{committed_is_published, looked_for_is_published}
use Rattle.fk_law_drain.proofs.published_looks.looked_for_is_published.Goals as goal

pub returns-clause-committed : goal.returns-clause-committed
returns-clause-committed c = committed_is_published

pub returns-clause-sought : goal.returns-clause-sought
returns-clause-sought c = looked_for_is_published
