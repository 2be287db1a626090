use Rattle.fk_agree.proofs.Watching.{sweep_is_written, told_is_written}
use Rattle.fk_agree.proofs.watches.sweep_is_written.Goals as goal

pub returns-clause-swept : goal.returns-clause-swept
returns-clause-swept c = sweep_is_written

pub returns-clause-told : goal.returns-clause-told
returns-clause-told c = told_is_written
