-- A history, walked from its oldest entry on.
use Rattle.std.proofs.Common.{◌≡◌, ℕ, ◌+◌, ◌<◌, List, [], ◌∷◌, ◌++◌, length, get_or, take, reverse, refl, sym, ◌∙◌, ap}
use Rattle.std.proofs.lemmas.List.{append-nil, reverse-append, take_more, take_all}
use Rattle.fk_base.specs.Path.{Name}
use Rattle.fk_print.specs.EntryText.{entry_text, history_text}
use Rattle.fk_print.specs.SummaryText.{counts_of, with_entry, with_line, with_lines}
use Rattle.fk_print.specs.declared.entry.Entry.{Entry}
use Rattle.fk_print.specs.declared.line.Line.{Line}
use Rattle.fk_print.specs.declared.summary_text.Counts.{Counts}

-- one entry more stands first among those that were walked
walked_more : (xs : List Entry) (i : ℕ) (e : Entry) → i < length xs → e ≡ get_or xs i e → reverse (take (i + 1) xs) ≡ e ∷ reverse (take i xs)
walked_more xs i e low is = rw (take_more xs i e low, ← is, reverse-append) refl

pub text_more : (names : List Name) (xs : List Entry) (i : ℕ) (e : Entry) → i < length xs → e ≡ get_or xs i e
    → history_text names (reverse (take (i + 1) xs)) ≡ history_text names (reverse (take i xs)) ++ entry_text names e
text_more names xs i e low is = ap (history_text names) (walked_more xs i e low is)

pub counts_more : (xs : List Entry) (i : ℕ) (e : Entry) → i < length xs → e ≡ get_or xs i e
    → counts_of (reverse (take (i + 1) xs)) ≡ with_entry (counts_of (reverse (take i xs))) e
counts_more xs i e low is = ap counts_of (walked_more xs i e low is)

with_lines-append : (c : Counts) (xs : List Line) (l : Line) → with_lines c (xs ++ l ∷ []) ≡ with_line (with_lines c xs) l
with_lines-append c [] l = refl
with_lines-append c (x ∷ xs) l = with_lines-append (with_line c x) xs l

pub lines_more : (c : Counts) (xs : List Line) (i : ℕ) (l : Line) → i < length xs → l ≡ get_or xs i l
    → with_lines c (take (i + 1) xs) ≡ with_line (with_lines c (take i xs)) l
lines_more c xs i l low is = rw (take_more xs i l low, ← is) (with_lines-append c (take i xs) l)
