-- The summary of a history.
use Rattle.std.specs.Prelude.{ℕ, ◌+◌, List, [], ◌∷◌, ◌++◌, codes}
use Rattle.std.specs.Fmt.{decimal}
use Rattle.fk_print.specs.Words.{Text}
use Rattle.fk_print.specs.declared.entry.Entry.{Entry}
use Rattle.fk_print.specs.declared.line.Line.{Line}
use Rattle.fk_print.specs.declared.line.Line.TheVariants as line
use Rattle.fk_print.specs.declared.line.Shown.{Shown}
use Rattle.fk_print.specs.declared.line.Shown.TheVariants as shown
use Rattle.fk_print.specs.declared.summary_text.Counts.{Counts}

-- an answer with `err`
abbrev pub errors_of : Shown → ℕ
errors_of (shown.Refused code m place) = 1
errors_of (shown.Plain code) = 1
errors_of (shown.Lost path own h m) = 1
errors_of other = 0

-- one public line more
abbrev pub with_line : Counts → Line → Counts
with_line c (line.Tx p) = record { entries = c.entries; transactions = c.transactions + 1; replies = c.replies; errors = c.errors; notifications = c.notifications; expired = c.expired; last = p.tx }
with_line c (line.Reply session i verb shown) = record { entries = c.entries; transactions = c.transactions; replies = c.replies + 1; errors = c.errors + errors_of shown; notifications = c.notifications; expired = c.expired; last = c.last }
with_line c (line.Notice session t what how path) = record { entries = c.entries; transactions = c.transactions; replies = c.replies; errors = c.errors; notifications = c.notifications + 1; expired = c.expired; last = c.last }
with_line c (line.Expired session t) = record { entries = c.entries; transactions = c.transactions; replies = c.replies; errors = c.errors; notifications = c.notifications; expired = c.expired + 1; last = c.last }

-- public lines more, in order
abbrev pub with_lines : Counts → List Line → Counts
with_lines c [] = c
with_lines c (l ∷ ls) = with_lines (with_line c l) ls

-- one entry more
abbrev pub with_entry : Counts → Entry → Counts
with_entry c e = with_lines (record { entries = c.entries + 1; transactions = c.transactions; replies = c.replies; errors = c.errors; notifications = c.notifications; expired = c.expired; last = c.last }) e.lines

-- what a history has of each, and the number of its last transaction, 0 where it has none
abbrev pub counts_of : List Entry → Counts
counts_of [] = record { entries = 0; transactions = 0; replies = 0; errors = 0; notifications = 0; expired = 0; last = 0 }
counts_of (e ∷ h) = with_entry (counts_of h) e

-- a word, a space, a number and a line feed
abbrev pub count_text : Text → ℕ → Text
count_text word n = word ++ codes " " ++ decimal n ++ codes "\n"

-- seven lines
abbrev pub counts_text : Counts → Text
counts_text c =
    count_text (codes "entries") c.entries ++ count_text (codes "transactions") c.transactions
    ++ count_text (codes "replies") c.replies ++ count_text (codes "errors") c.errors
    ++ count_text (codes "notifications") c.notifications ++ count_text (codes "expired") c.expired
    ++ count_text (codes "last") c.last

-- the summary of a history
abbrev pub summary_text : List Entry → Text
summary_text h = counts_text (counts_of h)
