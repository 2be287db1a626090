use Rattle.fk_agree.proofs.Telling.{message_tells_its_push}
use Rattle.fk_agree.proofs.pushes.message_tells_its_push.Goals as goal

pub returns : goal.returns
returns c = message_tells_its_push
