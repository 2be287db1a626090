use Rattle.fk_law_watch.proofs.Epochs.{untold_fired_watch_is_in_the_epoch}
use Rattle.fk_law_watch.proofs.epochs_of_watches.untold_fired_watch_is_in_the_epoch.Goals as goal

pub returns : goal.returns
returns c = untold_fired_watch_is_in_the_epoch
