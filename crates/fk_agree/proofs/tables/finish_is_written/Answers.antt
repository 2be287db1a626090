use Rattle.fk_agree.proofs.Finishing.{drop_is_written, finish_is_written}
use Rattle.fk_agree.proofs.tables.finish_is_written.Goals as goal

pub returns-clause-done : goal.returns-clause-done
returns-clause-done c = finish_is_written

pub returns-clause-drop : goal.returns-clause-drop
returns-clause-drop c = drop_is_written
