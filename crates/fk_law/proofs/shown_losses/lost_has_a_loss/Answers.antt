use Rattle.fk_law.proofs.Finding.{lost_has_a_loss}
use Rattle.fk_law.proofs.shown_losses.lost_has_a_loss.Goals as goal

pub returns : goal.returns
returns c = lost_has_a_loss
