use Rattle.fk_law_watch.proofs.Noting.{fired_is_listed}
use Rattle.fk_law_watch.proofs.push_notes.fired_is_listed_until_told.Goals as goal

pub returns : goal.returns
returns c = fired_is_listed
