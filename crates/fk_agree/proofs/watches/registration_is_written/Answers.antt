use Rattle.fk_agree.proofs.Watching.{registration_is_written}
use Rattle.fk_agree.proofs.watches.registration_is_written.Goals as goal

pub returns : goal.returns
returns c = registration_is_written
