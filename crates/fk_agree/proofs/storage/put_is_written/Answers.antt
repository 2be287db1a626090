use Rattle.fk_agree.proofs.Putting.{publication_is_written, put_is_written}
use Rattle.fk_agree.proofs.storage.put_is_written.Goals as goal

pub returns-clause-put : goal.returns-clause-put
returns-clause-put c = put_is_written

pub returns-clause-published : goal.returns-clause-published
returns-clause-published c = publication_is_written
