-- The text of a note.
use Rattle.std.specs.Prelude.{◌≡◌, ℕ, ◌^◌, ⊤, List, codes, Option, option_and_then, option_map}
use Rattle.json.specs.Json.{Json}
use Rattle.serde_json.specs.Data.{Data, object, member, no_members}
use Rattle.serde_json.specs.Written.{compact_text}
use Rattle.fk_wire.specs.declared.message.Note.{Note}
use Rattle.fk_wire.specs.declared.version.Version.{Version}
use Rattle.fk_wire.specs.Fired.{AreLimitedFired, AreTypedFired, fired_list_at, fired_list_data}
use Rattle.fk_wire.specs.Json.{IsTextOf, number_at, number_data, version_data}
use Rattle.fk_base.specs.Limits.{IsNumber}

-- the value in this version
abbrev pub note_data : Version → Note → Data
note_data v m =
    object (member (codes "fired") (fired_list_data m.fired)
    (member (codes "tx") (number_data m.tx)
    (member (codes "v") (version_data v) no_members)))

-- the text in this version
abbrev pub note_text : Version → Note → List ℕ
note_text v m = compact_text (note_data v m)

-- the limits of a note
abbrev pub IsLimitedNote : Note → Type 0
IsLimitedNote m = IsNumber m.tx × AreLimitedFired m.fired

-- what its types promise of a note
abbrev pub IsTypedNote : Note → Type 0
IsTypedNote m = AreTypedFired m.fired

-- a note that can be written
abbrev pub IsNote : Note → Type 0
IsNote m = IsLimitedNote m × IsTypedNote m

-- which notes a version can say: each of them all
abbrev pub CanSayNote : Version → Note → Type 0
CanSayNote v m = ⊤

-- The bytes are a text of the note, in one of the versions.
abbrev pub IsNoteText : List ℕ → Note → Type 0
IsNoteText = IsTextOf IsNote CanSayNote note_data

-- the note of which a value has the fields
abbrev pub note_from : Version → Json → Option Note
note_from v d =
    option_and_then (λ tx. option_map (λ fired. record { tx = tx; fired = fired })
    (fired_list_at (codes "fired") d)) (number_at (2 ^ 63) (codes "tx") d)

-- A law: bytes are the text of one note.
abbrev pub OneNote : Type 0
OneNote = (bytes : List ℕ) (m n : Note) → IsNoteText bytes m → IsNoteText bytes n → m ≡ n
