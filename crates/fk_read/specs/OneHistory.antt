-- A text tells one history.
use Rattle.std.specs.Prelude.{◌≡◌, List}
use Rattle.fk_base.specs.Path.{Name}
use Rattle.fk_print.specs.EntryText.{history_text}
use Rattle.fk_print.specs.WellFormed.{IsWellFormed}
use Rattle.fk_print.specs.declared.entry.Entry.{Entry}

-- A text is the text of one well-formed history alone.
abbrev pub IsTextOfOne : Type 0
IsTextOfOne = (names : List Name) (h g : List Entry) → IsWellFormed names h → IsWellFormed names g → history_text names h ≡ history_text names g → h ≡ g
