use Rattle.fk_law.proofs.TxLines.{greatest_tx_is_the_mark}
use Rattle.fk_law.proofs.tx_lines.greatest_tx_is_the_mark.Goals as goal

pub returns : goal.returns
returns c = greatest_tx_is_the_mark
