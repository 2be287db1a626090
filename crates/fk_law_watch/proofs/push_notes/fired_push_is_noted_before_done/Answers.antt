use Rattle.fk_law_watch.proofs.Handing.{fired_push_is_noted_before_done}
use Rattle.fk_law_watch.proofs.push_notes.fired_push_is_noted_before_done.Goals as goal

pub returns : goal.returns
returns c = fired_push_is_noted_before_done
