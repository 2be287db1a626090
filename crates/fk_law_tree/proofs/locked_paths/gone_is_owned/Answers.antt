use Rattle.fk_law_tree.proofs.Holding.{gone_is_owned}
use Rattle.fk_law_tree.proofs.locked_paths.gone_is_owned.Goals as goal

pub returns : goal.returns
returns c = gone_is_owned
