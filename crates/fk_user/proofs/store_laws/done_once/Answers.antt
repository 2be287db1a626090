use Rattle.fk_user.proofs.Standing.{puts_once, publications_once}
use Rattle.fk_user.proofs.store_laws.done_once.Goals as goal

pub returns-clause-puts : goal.returns-clause-puts
returns-clause-puts c = puts_once

pub returns-clause-publications : goal.returns-clause-publications
returns-clause-publications c = publications_once
