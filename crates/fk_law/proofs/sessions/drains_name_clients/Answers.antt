use Rattle.fk_law.proofs.Draining.{drains_begin_with_clients, drains_name_clients}
use Rattle.fk_law.proofs.sessions.drains_name_clients.Goals as goal

pub returns-clause-begin : goal.returns-clause-begin
returns-clause-begin c = drains_begin_with_clients

pub returns-clause-next : goal.returns-clause-next
returns-clause-next c = drains_name_clients
