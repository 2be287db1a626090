use Rattle.fk_wire.specs.declared.version.Version.TheVariants as version
use Rattle.fk_wire.proofs.Sents.{sents}
use Rattle.fk_wire.proofs.Texts.{float_free}
use Rattle.fk_wire.proofs.sent.encode_send.Goals as goal

pub text_of-requires : goal.text_of-requires
text_of-requires c = rw c.in_ok-value.ensures.value (float_free sents version.Two c.args.message.now (c.requires.limited, c.in_ok-value.ensures.typed) tt)
