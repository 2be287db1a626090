use Rattle.fk_law.proofs.Due.{due}
use Rattle.fk_law.proofs.due_entries.every_entry_is_due.Goals as goal

pub returns : goal.returns
returns c = due
