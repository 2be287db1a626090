use Rattle.fk_law.proofs.Rising.{commits_rise_on_a_path}
use Rattle.fk_law.proofs.commit_order.commits_rise_on_a_path.Goals as goal

pub returns : goal.returns
returns c = commits_rise_on_a_path
