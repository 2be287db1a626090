use Rattle.fk_law_reply.proofs.ClosedClients.{closed_clients_are_right, expired_by_an_operation, expired_met_a_closed_session}
use Rattle.fk_law_reply.proofs.closed_clients.closed_clients_are_right.Goals as goal

pub returns-clause-right : goal.returns-clause-right
returns-clause-right c = closed_clients_are_right

pub returns-clause-kept : goal.returns-clause-kept
returns-clause-kept c = expired_met_a_closed_session

pub returns-clause-after : goal.returns-clause-after
returns-clause-after c = expired_by_an_operation
