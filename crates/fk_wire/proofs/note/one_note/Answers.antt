use Rattle.fk_wire.proofs.NoteBack.{notes}
use Rattle.fk_wire.proofs.Texts.{one_message}
use Rattle.fk_wire.proofs.note.one_note.Goals as goal

pub returns : goal.returns
returns c = one_message notes
