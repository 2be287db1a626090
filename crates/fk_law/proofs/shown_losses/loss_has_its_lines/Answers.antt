use Rattle.fk_law.proofs.Losses.{loss_has_its_lines}
use Rattle.fk_law.proofs.shown_losses.loss_has_its_lines.Goals as goal

pub returns : goal.returns
returns c = loss_has_its_lines
