use Rattle.fk_user.proofs.Standing.{puts_never_fall, publications_never_fall}
use Rattle.fk_user.proofs.store_laws.stamps_never_fall.Goals as goal

pub returns-clause-puts : goal.returns-clause-puts
returns-clause-puts c = puts_never_fall

pub returns-clause-publications : goal.returns-clause-publications
returns-clause-publications c = publications_never_fall
