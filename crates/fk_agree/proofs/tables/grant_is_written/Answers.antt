use Rattle.fk_agree.proofs.Granting.{grant_is_written}
use Rattle.fk_agree.proofs.tables.grant_is_written.Goals as goal

pub returns : goal.returns
returns c = grant_is_written
