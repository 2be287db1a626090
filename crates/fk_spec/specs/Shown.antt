-- The numbers that a client's lines show.
use Rattle.std.specs.Prelude.{ℕ, ◌==◌, if◌then◌else◌, List, [], ◌∷◌, Option, Some, None, max}
use Rattle.fk_print.specs.declared.entry.Entry.{Entry}
use Rattle.fk_print.specs.declared.line.Line.{Line}
use Rattle.fk_print.specs.declared.line.Line.TheVariants as line
use Rattle.fk_print.specs.declared.line.Shown.{Shown}
use Rattle.fk_print.specs.declared.line.Shown.TheVariants as shown

-- the number of the tree that a reply speaks of
abbrev pub shown_number : Shown → Option ℕ
shown_number (shown.Created tx path) = Some tx
shown_number (shown.Version tx version) = Some tx
shown_number (shown.Done tx) = Some tx
shown_number (shown.Multi tx replies) = Some tx
shown_number (shown.Got at bytes stat) = Some at
shown_number (shown.Stated at stat) = Some at
shown_number (shown.Listed at names) = Some at
shown_number (shown.Refused code at place) = Some at
shown_number (shown.Plain code) = None
shown_number (shown.Lost path own found moment) = None

abbrev pub number_or : ℕ → Option ℕ → ℕ
number_or n None = n
number_or n (Some m) = max m n

abbrev pub seen_in : ℕ → Line → ℕ → ℕ
seen_in c (line.Tx printed) n = n
seen_in c (line.Reply session command verb shown) n = if session == c then number_or n (shown_number shown) else n
seen_in c (line.Notice session tx kind what path) n = if session == c then max tx n else n
seen_in c (line.Expired session tx) n = if session == c then max tx n else n

abbrev pub seen_lines : ℕ → List Line → ℕ → ℕ
seen_lines c [] n = n
seen_lines c (l ∷ ls) n = seen_lines c ls (seen_in c l n)

-- the greatest number of a reply, a notice or an expiry of client c, 0 where there is none
abbrev pub seen_by : ℕ → List Entry → ℕ
seen_by c [] = 0
seen_by c (e ∷ h) = seen_lines c e.lines (seen_by c h)
