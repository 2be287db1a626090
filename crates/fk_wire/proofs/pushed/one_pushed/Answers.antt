use Rattle.fk_wire.proofs.Pusheds.{pusheds}
use Rattle.fk_wire.proofs.Texts.{one_message}
use Rattle.fk_wire.proofs.pushed.one_pushed.Goals as goal

pub returns : goal.returns
returns c = one_message pusheds
