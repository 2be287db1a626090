use Rattle.fk_law_watch.proofs.Telling.{removed_note_is_told}
use Rattle.fk_law_watch.proofs.announcements.removed_note_is_told.Goals as goal

pub returns : goal.returns
returns c = removed_note_is_told
