use Rattle.fk_law_tree.proofs.Holding.{locks_read_locked}
use Rattle.fk_law_tree.proofs.locked_paths.locks_read_what_is_locked.Goals as goal

pub returns : goal.returns
returns c = locks_read_locked
