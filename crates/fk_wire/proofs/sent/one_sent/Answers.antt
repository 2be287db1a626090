use Rattle.fk_wire.proofs.Sents.{sents}
use Rattle.fk_wire.proofs.Texts.{one_message}
use Rattle.fk_wire.proofs.sent.one_sent.Goals as goal

pub returns : goal.returns
returns c = one_message sents
