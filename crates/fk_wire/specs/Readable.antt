-- Messages of which the text that is written, that of the second version, is read back.
use Rattle.fk_wire.specs.NoteText.{IsNoteText, note_text}
use Rattle.fk_wire.specs.PushedText.{IsPushedText, pushed_text}
use Rattle.fk_wire.specs.SentText.{IsSentText, sent_text}
use Rattle.fk_wire.specs.TellText.{IsTellText, tell_text}
use Rattle.fk_wire.specs.declared.message.Note.{Note}
use Rattle.fk_wire.specs.declared.message.Pushed.{Pushed}
use Rattle.fk_wire.specs.declared.message.Sent.{Sent}
use Rattle.fk_wire.specs.declared.message.Tell.{Tell}
use Rattle.fk_wire.specs.declared.version.Version.TheVariants as version

abbrev pub IsSentReadable : Sent → Type 0
IsSentReadable m = IsSentText (sent_text version.Two m) m

abbrev pub IsPushedReadable : Pushed → Type 0
IsPushedReadable m = IsPushedText (pushed_text version.Two m) m

abbrev pub IsNoteReadable : Note → Type 0
IsNoteReadable m = IsNoteText (note_text version.Two m) m

abbrev pub IsTellReadable : Tell → Type 0
IsTellReadable m = IsTellText (tell_text version.Two m) m
