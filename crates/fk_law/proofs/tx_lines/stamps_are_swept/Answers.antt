use Rattle.fk_law.proofs.TxLines.{stamps_are_swept}
use Rattle.fk_law.proofs.tx_lines.stamps_are_swept.Goals as goal

pub returns : goal.returns
returns c = stamps_are_swept
