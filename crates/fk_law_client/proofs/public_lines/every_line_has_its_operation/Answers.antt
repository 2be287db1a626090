use Rattle.fk_law_client.proofs.Lines.{client_lines_are, other_lines_are}
use Rattle.fk_law_client.proofs.public_lines.every_line_has_its_operation.Goals as goal

pub returns-clause-client : goal.returns-clause-client
returns-clause-client c = client_lines_are

pub returns-clause-other : goal.returns-clause-other
returns-clause-other c = other_lines_are
