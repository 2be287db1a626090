use Rattle.fk_law_lawful.proofs.Promising.{every_history_is_lawful, every_promise_is_kept}
use Rattle.fk_law_lawful.proofs.lawful_histories.every_history_is_lawful.Goals as goal

pub returns-clause-promises : goal.returns-clause-promises
returns-clause-promises c = every_promise_is_kept

pub returns-clause-lawful : goal.returns-clause-lawful
returns-clause-lawful c = every_history_is_lawful
