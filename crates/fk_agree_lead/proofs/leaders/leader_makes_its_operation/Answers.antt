use Rattle.fk_agree_lead.proofs.Making.{leader_makes_its_operation, leader_fails}
use Rattle.fk_agree_lead.proofs.leaders.leader_makes_its_operation.Goals as goal

pub returns-clause-op : goal.returns-clause-op
returns-clause-op c = leader_makes_its_operation

pub returns-clause-fault : goal.returns-clause-fault
returns-clause-fault c = leader_fails
