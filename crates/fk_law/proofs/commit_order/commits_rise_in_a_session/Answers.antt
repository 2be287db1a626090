use Rattle.fk_law.proofs.Rising.{commits_rise_in_a_session}
use Rattle.fk_law.proofs.commit_order.commits_rise_in_a_session.Goals as goal

pub returns : goal.returns
returns c = commits_rise_in_a_session
