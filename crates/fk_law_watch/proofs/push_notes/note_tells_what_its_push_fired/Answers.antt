use Rattle.fk_law_watch.proofs.Handing.{note_tells_what_its_push_fired}
use Rattle.fk_law_watch.proofs.push_notes.note_tells_what_its_push_fired.Goals as goal

pub returns : goal.returns
returns c = note_tells_what_its_push_fired
