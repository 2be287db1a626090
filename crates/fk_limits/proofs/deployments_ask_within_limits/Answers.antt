use Rattle.fk_limits.proofs.Deployments.{asks_are_limited, asks_are_readable, clients_are_few, commands_are_few, requests_are_limited, requests_are_readable}
use Rattle.fk_limits.proofs.deployments_ask_within_limits.Goals as goal

pub returns-clause-asks : goal.returns-clause-asks
returns-clause-asks c = asks_are_limited

pub returns-clause-requests : goal.returns-clause-requests
returns-clause-requests c = requests_are_limited

pub returns-clause-readable_asks : goal.returns-clause-readable_asks
returns-clause-readable_asks c = asks_are_readable

pub returns-clause-readable_requests : goal.returns-clause-readable_requests
returns-clause-readable_requests c = requests_are_readable

pub returns-clause-commands : goal.returns-clause-commands
returns-clause-commands c = commands_are_few

pub returns-clause-clients : goal.returns-clause-clients
returns-clause-clients c = clients_are_few
