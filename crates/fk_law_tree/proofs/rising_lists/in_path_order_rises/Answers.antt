use Rattle.fk_law_tree.proofs.Lists.{in_path_order_rises}
use Rattle.fk_law_tree.proofs.rising_lists.in_path_order_rises.Goals as goal

pub returns : goal.returns
returns c = in_path_order_rises
