use Rattle.fk_law.proofs.Editing.{push_locks_what_it_edits}
use Rattle.fk_law.proofs.fitting_pushes.push_locks_what_it_edits.Goals as goal

pub returns : goal.returns
returns c = push_locks_what_it_edits
