use Rattle.fk_law.proofs.Finding.{loser_has_found}
use Rattle.fk_law.proofs.shown_losses.loser_has_found.Goals as goal

pub returns : goal.returns
returns c = loser_has_found
