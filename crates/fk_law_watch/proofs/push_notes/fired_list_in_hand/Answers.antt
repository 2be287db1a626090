use Rattle.fk_law_watch.proofs.Handing.{fired_list_in_hand}
use Rattle.fk_law_watch.proofs.push_notes.fired_list_in_hand.Goals as goal

pub returns : goal.returns
returns c = fired_list_in_hand
