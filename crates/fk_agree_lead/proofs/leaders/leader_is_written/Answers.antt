use Rattle.fk_agree_lead.proofs.Written.{leader_fault_is_written, leader_is_written}
use Rattle.fk_agree_lead.proofs.leaders.leader_is_written.Goals as goal

pub returns-clause-op : goal.returns-clause-op
returns-clause-op c = leader_is_written

pub returns-clause-fault : goal.returns-clause-fault
returns-clause-fault c = leader_fault_is_written
