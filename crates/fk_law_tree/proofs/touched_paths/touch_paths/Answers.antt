use Rattle.fk_law_tree.proofs.Touching.{touch_paths}
use Rattle.fk_law_tree.proofs.touched_paths.touch_paths.Goals as goal

pub returns : goal.returns
returns c = touch_paths
