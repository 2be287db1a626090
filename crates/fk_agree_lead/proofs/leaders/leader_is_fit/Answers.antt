use Rattle.fk_agree_lead.proofs.Needs.{leader_is_fit}
use Rattle.fk_agree_lead.proofs.leaders.leader_is_fit.Goals as goal

pub returns : goal.returns
returns c = leader_is_fit
