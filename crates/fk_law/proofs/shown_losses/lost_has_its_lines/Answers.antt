use Rattle.fk_law.proofs.Losses.{lost_has_its_lines}
use Rattle.fk_law.proofs.shown_losses.lost_has_its_lines.Goals as goal

pub returns : goal.returns
returns c = lost_has_its_lines
