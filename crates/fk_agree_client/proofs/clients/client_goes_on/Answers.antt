use Rattle.fk_agree_client.proofs.Going.{client_goes_on, client_prints_its_lines}
use Rattle.fk_agree_client.proofs.clients.client_goes_on.Goals as goal

pub returns-clause-lines : goal.returns-clause-lines
returns-clause-lines c = client_prints_its_lines

pub returns-clause-stands : goal.returns-clause-stands
returns-clause-stands c = client_goes_on
