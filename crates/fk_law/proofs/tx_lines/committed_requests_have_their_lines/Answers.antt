use Rattle.fk_law.proofs.TxLines.{published_request_has_its_line, uncommitted_request_has_no_line}
use Rattle.fk_law.proofs.tx_lines.committed_requests_have_their_lines.Goals as goal

pub returns-clause-line : goal.returns-clause-line
returns-clause-line c = published_request_has_its_line

pub returns-clause-none : goal.returns-clause-none
returns-clause-none c = uncommitted_request_has_no_line
