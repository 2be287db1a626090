use Rattle.fk_wire.specs.declared.version.Version.TheVariants as version
use Rattle.fk_wire.proofs.NoteBack.{notes}
use Rattle.fk_wire.proofs.Texts.{float_free}
use Rattle.fk_wire.proofs.note.encode_note.Goals as goal

pub text_of-requires : goal.text_of-requires
text_of-requires c = rw c.in_ok-value.ensures.value (float_free notes version.Two c.args.message.now (c.requires.limited, c.in_ok-value.ensures.typed) tt)
