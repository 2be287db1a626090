use Rattle.fk_law_watch.proofs.Epochs.{leader_holds_a_complete_epoch}
use Rattle.fk_law_watch.proofs.epochs_of_watches.leader_holds_a_complete_epoch.Goals as goal

pub returns : goal.returns
returns c = leader_holds_a_complete_epoch
