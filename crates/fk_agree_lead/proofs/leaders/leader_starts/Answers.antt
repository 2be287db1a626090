use Rattle.fk_agree_lead.proofs.Starting.{leader_starts}
use Rattle.fk_agree_lead.proofs.leaders.leader_starts.Goals as goal

pub returns : goal.returns
returns c = leader_starts
