use Rattle.fk_law.proofs.TxLines.{published_as_committed, published_push_has_its_line}
use Rattle.fk_law.proofs.tx_lines.published_as_committed.Goals as goal

pub returns-clause-line : goal.returns-clause-line
returns-clause-line c = published_push_has_its_line

pub returns-clause-same : goal.returns-clause-same
returns-clause-same c = published_as_committed
