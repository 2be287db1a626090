use Rattle.fk_law.proofs.Editing.{only_the_holder_edits}
use Rattle.fk_law.proofs.fitting_pushes.only_the_holder_edits.Goals as goal

pub returns : goal.returns
returns c = only_the_holder_edits
