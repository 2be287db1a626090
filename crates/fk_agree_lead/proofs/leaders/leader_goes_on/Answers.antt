use Rattle.fk_agree_lead.proofs.Going.{leader_ends_at_its_fault, leader_goes_on}
use Rattle.fk_agree_lead.proofs.Starting.{others_leave_leaders}
use Rattle.fk_agree_lead.proofs.leaders.leader_goes_on.Goals as goal

pub returns-clause-own : goal.returns-clause-own
returns-clause-own c = leader_goes_on

pub returns-clause-fault : goal.returns-clause-fault
returns-clause-fault c = leader_ends_at_its_fault

pub returns-clause-others : goal.returns-clause-others
returns-clause-others c = others_leave_leaders
