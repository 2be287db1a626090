use Rattle.fk_agree_lead.proofs.Written.{leader_prints_its_lines}
use Rattle.fk_agree_lead.proofs.leaders.leader_prints_its_lines.Goals as goal

pub returns : goal.returns
returns c = leader_prints_its_lines
