use Rattle.fk_law_watch.proofs.Noting.{fired_at_its_push, fired_of_a_push}
use Rattle.fk_law_watch.proofs.push_notes.fired_at_its_push.Goals as goal

pub returns-clause-at : goal.returns-clause-at
returns-clause-at c = fired_at_its_push

pub returns-clause-of : goal.returns-clause-of
returns-clause-of c = fired_of_a_push
