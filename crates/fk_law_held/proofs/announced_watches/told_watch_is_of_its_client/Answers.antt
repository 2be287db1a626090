use Rattle.fk_law_held.proofs.Telling.{told_watch_is_of_its_client}
use Rattle.fk_law_held.proofs.announced_watches.told_watch_is_of_its_client.Goals as goal

pub returns : goal.returns
returns c = told_watch_is_of_its_client
