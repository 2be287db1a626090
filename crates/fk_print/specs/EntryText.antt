-- The text of an entry, and of a whole history.
use Rattle.std.specs.Prelude.{List, [], ◌∷◌, ◌++◌}
use Rattle.std.specs.List.{flat_map}
use Rattle.fk_base.specs.Path.{Name}
use Rattle.fk_print.specs.Words.{Text}
use Rattle.fk_print.specs.EventText.{event_text}
use Rattle.fk_print.specs.OpText.{op_text}
use Rattle.fk_print.specs.LineText.{line_text}
use Rattle.fk_print.specs.declared.entry.Entry.{Entry}

-- an entry: its event, its operation and its public lines
abbrev pub entry_text : List Name → Entry → Text
entry_text names e = event_text names e.event ++ op_text names e.op ++ flat_map (line_text names) e.lines

-- a history, whose newest entry stands first in the list and last in the text
abbrev pub history_text : List Name → List Entry → Text
history_text names [] = []
history_text names (e ∷ h) = history_text names h ++ entry_text names e
