use Rattle.fk_law.proofs.Publishing.{each_request_once}
use Rattle.fk_law.proofs.publications.each_request_once.Goals as goal

pub returns : goal.returns
returns c = each_request_once
