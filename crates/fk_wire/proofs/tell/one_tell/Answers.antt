use Rattle.fk_wire.proofs.TellBack.{tells}
use Rattle.fk_wire.proofs.Texts.{one_message}
use Rattle.fk_wire.proofs.tell.one_tell.Goals as goal

pub returns : goal.returns
returns c = one_message tells
