use Rattle.fk_law_watch.proofs.Epochs.{epoch_has_fired}
use Rattle.fk_law_watch.proofs.epochs_of_watches.epoch_has_fired.Goals as goal

pub returns : goal.returns
returns c = epoch_has_fired
