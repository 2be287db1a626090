use Rattle.fk_wire.proofs.TellBack.{tells}
use Rattle.fk_wire.proofs.Texts.{fields_message, only_message}
use Rattle.fk_wire.proofs.tell.tell_of.Goals as goal

pub returns-clause-message : goal.returns-clause-message
returns-clause-message c = fields_message tells _ _ _ (rw (c.in-Some.is, c.as_slice.ensures.value) at c.in_ok-message.ensures.fields) c.requires.text

pub returns-clause-back : goal.returns-clause-back
returns-clause-back c = only_message tells _ _ _ (rw (c.in-Some.is, c.as_slice.ensures.value) at c.in_ok-message.ensures.fields)
