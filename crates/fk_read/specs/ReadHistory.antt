-- What the lines of a history say.
use Rattle.std.specs.Prelude.{if◌then◌else◌, List, [], ◌∷◌, ◌++◌, codes, Option, Some, None, ⊤}
use Rattle.std.specs.Option.{option_map, option_and_then}
use Rattle.std.specs.List.{AllByRecursion}
use Rattle.std.specs.Str.{bytes_eq}
use Rattle.fk_base.specs.Path.{Name}
use Rattle.fk_print.specs.WellFormed.{IsEntry, IsEvent}
use Rattle.fk_print.specs.Words.{Text}
use Rattle.fk_print.specs.declared.entry.Entry.{Entry}
use Rattle.fk_print.specs.declared.event.Event.{Event}
use Rattle.fk_print.specs.declared.line.Line.{Line}
use Rattle.fk_print.specs.declared.op.Op.{Op}
use Rattle.fk_read.specs.Cut.{lines_in, words_in}
use Rattle.fk_read.specs.ReadEvent.{event_of}
use Rattle.fk_read.specs.ReadLine.{line_of}
use Rattle.fk_read.specs.ReadOp.{op_of}
use Rattle.fk_read.specs.Reads.{then_word}
use Rattle.fk_read.specs.declared.reading.Reading.{Reading}

-- the entries so far, the one that lines are added to among them
abbrev pub closed : Option Entry → List Entry → List Entry
closed None h = h
closed (Some e) h = e ∷ h

-- an event closes the entry before it
abbrev pub with_event : Event → Reading → Reading
with_event e r = record { history = closed r.entry r.history; entry = None; event = Some e }

-- an operation opens the entry of its event
abbrev pub with_op : Op → Reading → Option Reading
with_op o r = option_map (λ e. record { history = r.history; entry = Some (record { event = e; op = o; lines = [] }); event = None }) r.event

-- a public line joins its entry
abbrev pub with_line : Line → Reading → Option Reading
with_line l r = option_map (λ e. record { history = r.history; entry = Some (record { event = e.event; op = e.op; lines = e.lines ++ l ∷ [] }); event = r.event }) r.entry

-- behind the mark of a line
abbrev pub marked_line : List Name → Reading → Text → List Text → Option Reading
marked_line names r mark words =
    if bytes_eq mark (codes ">") then option_map (λ e. with_event e r) (event_of names words)
    else if bytes_eq mark (codes ".") then option_and_then (λ o. with_op o r) (op_of names words)
    else option_and_then (λ l. with_line l r) (line_of names mark words)

-- a line; an empty one says nothing
abbrev pub read_line : List Name → Reading → Text → Option Reading
read_line names r [] = Some r
read_line names r (b ∷ bytes) = then_word (words_in (b ∷ bytes)) (marked_line names r)

-- lines
abbrev pub read_lines : List Name → Reading → List Text → Option Reading
read_lines names r [] = Some r
read_lines names r (line ∷ lines) = option_and_then (λ s. read_lines names s lines) (read_line names r line)

-- before the first line
abbrev pub nothing_read : Reading
nothing_read = record { history = []; entry = None; event = None }

-- the history that a text says, whether that is its text or not
abbrev pub history_of : List Name → Text → Option (List Entry)
history_of names text = option_map (λ r. closed r.entry r.history) (read_lines names nothing_read (lines_in text))

-- what was read so far is well formed
abbrev pub IsEntryRead : List Name → Option Entry → Type 0
IsEntryRead names None = ⊤
IsEntryRead names (Some e) = IsEntry names e

abbrev pub IsEventRead : List Name → Option Event → Type 0
IsEventRead names None = ⊤
IsEventRead names (Some e) = IsEvent names e

abbrev pub IsRead : List Name → Reading → Type 0
IsRead names r = AllByRecursion (IsEntry names) r.history × IsEntryRead names r.entry × IsEventRead names r.event
