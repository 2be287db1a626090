use Rattle.fk_law.proofs.Closes.{close_lists_all}
use Rattle.fk_law.proofs.commit_numbers.close_lists_all.Goals as goal

pub returns : goal.returns
returns c = close_lists_all
