use Rattle.fk_agree.proofs.Committing.{commit_is_written}
use Rattle.fk_agree.proofs.tables.commit_is_written.Goals as goal

pub returns : goal.returns
returns c = commit_is_written
