-- The texts of a note are read back.
use Rattle.std.proofs.Common.{refl}
use Rattle.json.proofs.Printed.Utf8.{IsUtf8-are_ascii as utf8_key}
use Rattle.fk_wire.specs.NoteText.{CanSayNote, IsNote, note_data, note_from}
use Rattle.fk_wire.proofs.FiredBack.{fired_list_back, fired_list_fit}
use Rattle.fk_wire.proofs.Texts.{ReadsBack}
use Rattle.fk_wire.proofs.Values.{number_back, number_fit, version_back, version_fit}

pub notes : ReadsBack IsNote CanSayNote note_data note_from
notes = record {
  fit = λ v m h s. (utf8_key _ refl, fired_list_fit 124 m.fired h.0.1 h.1, (utf8_key _ refl, number_fit m.tx h.0.0, (utf8_key _ refl, version_fit v, tt)));
  version = λ v m. version_back v;
  back = λ v m h s. rw (number_back m.tx h.0.0, fired_list_back m.fired h.0.1 h.1) refl;
}
