-- A message that can be written is read back.
use Rattle.std.proofs.Common.{refl}
use Rattle.fk_wire.specs.NoteText.{IsNote}
use Rattle.fk_wire.specs.PushedText.{IsPushed}
use Rattle.fk_wire.specs.Readable.{IsNoteReadable, IsPushedReadable, IsSentReadable, IsTellReadable}
use Rattle.fk_wire.specs.SentText.{IsSent}
use Rattle.fk_wire.specs.TellText.{IsTell}
use Rattle.fk_wire.specs.declared.message.Note.{Note}
use Rattle.fk_wire.specs.declared.message.Pushed.{Pushed}
use Rattle.fk_wire.specs.declared.message.Sent.{Sent}
use Rattle.fk_wire.specs.declared.message.Tell.{Tell}
use Rattle.fk_wire.specs.declared.version.Version.TheVariants as version

pub sent_readable : (m : Sent) → IsSent m → IsSentReadable m
sent_readable m h = (h, (version.Two, tt, refl))

pub pushed_readable : (m : Pushed) → IsPushed m → IsPushedReadable m
pushed_readable m h = (h, (version.Two, (tt, tt), refl))

pub note_readable : (m : Note) → IsNote m → IsNoteReadable m
note_readable m h = (h, (version.Two, tt, refl))

pub tell_readable : (m : Tell) → IsTell m → IsTellReadable m
tell_readable m h = (h, (version.Two, tt, refl))
