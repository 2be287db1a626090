-- A well-formed history reads back from its text.
use Rattle.std.proofs.Common.{◌≡◌, ℕ, Bool, true, false, cond, List, [], ◌∷◌, ◌++◌, codes, Some, None, refl, sym, ◌∙◌, ap, arith, append_assoc}
use Rattle.std.specs.Prelude.{nat_le}
use Rattle.std.specs.List.{AllByRecursion, flat_map, onto_first, slice_split}
use Rattle.std.specs.Option.{option_and_then}
use Rattle.std.proofs.lemmas.Bool.Decides.{nat_tests}
use Rattle.std.proofs.lemmas.List.{append-nil}
use Rattle.fk_base.specs.Path.{Name}
use Rattle.fk_print.specs.ClientNames.{are_client_names}
use Rattle.fk_print.specs.EntryText.{entry_text, history_text}
use Rattle.fk_print.specs.EventText.{event_text, event_words}
use Rattle.fk_print.specs.LineText.{line_text}
use Rattle.fk_print.specs.OpText.{op_text, op_words}
use Rattle.fk_print.specs.WellFormed.{IsEntry, IsLine, IsWellFormed}
use Rattle.fk_print.specs.Words.{Text, marked, spaced}
use Rattle.fk_print.specs.declared.entry.Entry.{Entry}
use Rattle.fk_print.specs.declared.line.Line.{Line}
use Rattle.fk_print.specs.declared.line.Line.TheVariants as line
use Rattle.fk_read.specs.Cut.{is_byte_at, lines_in, words_in}
use Rattle.fk_read.specs.Reads.{then_word}
use Rattle.fk_read.specs.ReadHistory.{closed, history_of, marked_line, nothing_read, read_lines, with_event}
use Rattle.fk_read.specs.declared.reading.Reading.{Reading}
use Rattle.fk_read.proofs.EventsBack.{event_back, event_shown}
use Rattle.fk_read.proofs.LinesBack.{line_back, line_shown, line_words}
use Rattle.fk_read.proofs.OpsBack.{op_back}
use Rattle.fk_read.proofs.OpsShown.{op_shown}
use Rattle.fk_read.proofs.Shown.{AreShown, is_shown}
use Rattle.fk_base.proofs.Logic.{and_both, and_left, and_right}

-- there is a piece at least
some_piece : (p : ℕ → Bool) (text : Text) → (first : Text) × (more : List Text) × (slice_split p text ≡ first ∷ more)
some_piece p [] = ([], [], refl)
some_piece p (x ∷ xs) = step (p x) (some_piece p xs)
  where
    step : (b : Bool) → (first : Text) × (more : List Text) × (slice_split p xs ≡ first ∷ more) → (first : Text) × (more : List Text) × (cond b ([] ∷ slice_split p xs) (onto_first x (slice_split p xs)) ≡ first ∷ more)
    step true s = ([], slice_split p xs, refl)
    step false (first, more, e) = (x ∷ first, more, rw e refl)

-- a byte before the first piece of two lists of pieces
onto_first-append : (x : ℕ) (text : Text) (p : ℕ → Bool) (ys : List Text) → onto_first x (slice_split p text ++ ys) ≡ onto_first x (slice_split p text) ++ ys
onto_first-append x text p ys = step (some_piece p text)
  where
    step : (first : Text) × (more : List Text) × (slice_split p text ≡ first ∷ more) → onto_first x (slice_split p text ++ ys) ≡ onto_first x (slice_split p text) ++ ys
    step (first, more, e) = rw e refl

-- the words of two texts with a space between
words_in-joined : (a b : Text) → words_in (a ++ 32 ∷ b) ≡ words_in a ++ words_in b
words_in-joined [] b = refl
words_in-joined (x ∷ a) b = step (is_byte_at 32 x) (words_in-joined a b)
  where
    step : (t : Bool) → words_in (a ++ 32 ∷ b) ≡ words_in a ++ words_in b → cond t ([] ∷ words_in (a ++ 32 ∷ b)) (onto_first x (words_in (a ++ 32 ∷ b))) ≡ cond t ([] ∷ words_in a) (onto_first x (words_in a)) ++ words_in b
    step true e = ap (λ r. [] ∷ r) e
    step false e = rw e (onto_first-append x a (is_byte_at 32) (words_in b))

-- the words of words that are spaced out
words_in-spaced : (a : Text) (ws : List Text) → words_in (a ++ spaced ws) ≡ words_in a ++ flat_map words_in ws
words_in-spaced a [] = rw (append-nil a, append-nil (words_in a)) refl
words_in-spaced a (w ∷ ws) = words_in-joined a (w ++ spaced ws) ∙ ap (λ r. words_in a ++ r) (words_in-spaced w ws)

-- a line feed ends a line that has none
shown_no_feed : (b : ℕ) → nat_le 32 b ≡ true → is_byte_at 10 b ≡ false
shown_no_feed b e = grind (arith, nat_tests)

lines_in-line : (a rest : Text) → is_shown a ≡ true → lines_in (a ++ 10 ∷ rest) ≡ a ∷ lines_in rest
lines_in-line [] rest e = refl
lines_in-line (x ∷ a) rest e =
    rw (shown_no_feed x (and_left (nat_le 32 x) (is_shown a) e), lines_in-line a rest (and_right (nat_le 32 x) (is_shown a) e)) refl

shown_both : (a b : Text) → is_shown a ≡ true → is_shown b ≡ true → is_shown (a ++ b) ≡ true
shown_both [] b e f = f
shown_both (c ∷ a) b e f = and_both (nat_le 32 c) (is_shown (a ++ b)) (and_left (nat_le 32 c) (is_shown a) e) (shown_both a b (and_right (nat_le 32 c) (is_shown a) e) f)

spaced_shown : (ws : List Text) → AreShown ws → is_shown (spaced ws) ≡ true
spaced_shown [] s = refl
spaced_shown (w ∷ ws) s = shown_both w (spaced ws) s.0 (spaced_shown ws s.1)

-- a line in front of a text
marked_front : (m : ℕ) (ws : List Text) (rest : Text) → nat_le 32 m ≡ true → AreShown ws → lines_in (marked (m ∷ []) ws ++ rest) ≡ (m ∷ spaced ws) ∷ lines_in rest
marked_front m ws rest mark shown =
    ap lines_in (append_assoc (m ∷ spaced ws) (codes "\n") rest) ∙ lines_in-line (m ∷ spaced ws) rest (and_both (nat_le 32 m) (is_shown (spaced ws)) mark (spaced_shown ws shown))

-- is read by its mark and its words
marked_back : (names : List Name) (r : Reading) (m : ℕ) (ws : List Text) (rest : Text) → nat_le 32 m ≡ true → is_byte_at 32 m ≡ false → AreShown ws
    → read_lines names r (lines_in (marked (m ∷ []) ws ++ rest)) ≡ option_and_then (λ s. read_lines names s (lines_in rest)) (marked_line names r (m ∷ []) (flat_map words_in ws))
marked_back names r m ws rest mark bare shown =
    let words : words_in (m ∷ spaced ws) ≡ (m ∷ []) ∷ flat_map words_in ws = words_in-spaced (m ∷ []) ws ∙ rw bare refl in
    rw (marked_front m ws rest mark shown) (ap (λ ws. option_and_then (λ s. read_lines names s (lines_in rest)) (then_word ws (marked_line names r))) words)

public_back : (names : List Name) (h : List Entry) (e : Entry) (l : Line) (rest : Text) → are_client_names names ≡ true → IsLine names l
    → read_lines names (record { history = h; entry = Some e; event = None }) (lines_in (line_text names l ++ rest))
    ≡ read_lines names (record { history = h; entry = Some (record { event = e.event; op = e.op; lines = e.lines ++ l ∷ [] }); event = None }) (lines_in rest)
public_back names h e (line.Tx p) rest known f = marked_back names _ 43 (line_words names (line.Tx p)) rest refl refl (line_shown names (line.Tx p) known f) ∙ rw (line_back names (line.Tx p) known f) refl
public_back names h e (line.Reply c i v s) rest known f = marked_back names _ 60 (line_words names (line.Reply c i v s)) rest refl refl (line_shown names (line.Reply c i v s) known f) ∙ rw (line_back names (line.Reply c i v s) known f) refl
public_back names h e (line.Notice c t k w p) rest known f = marked_back names _ 33 (line_words names (line.Notice c t k w p)) rest refl refl (line_shown names (line.Notice c t k w p) known f) ∙ rw (line_back names (line.Notice c t k w p) known f) refl
public_back names h e (line.Expired c t) rest known f = marked_back names _ 120 (line_words names (line.Expired c t)) rest refl refl (line_shown names (line.Expired c t) known f) ∙ rw (line_back names (line.Expired c t) known f) refl

lines_back : (names : List Name) (h : List Entry) (e : Entry) (ls : List Line) (rest : Text) → are_client_names names ≡ true → AllByRecursion (IsLine names) ls
    → read_lines names (record { history = h; entry = Some e; event = None }) (lines_in (flat_map (line_text names) ls ++ rest))
    ≡ read_lines names (record { history = h; entry = Some (record { event = e.event; op = e.op; lines = e.lines ++ ls }); event = None }) (lines_in rest)
lines_back names h e [] rest known f = rw (append-nil e.lines) refl
lines_back names h e (l ∷ ls) rest known f =
    ap (λ t. read_lines names (record { history = h; entry = Some e; event = None }) (lines_in t)) (append_assoc (line_text names l) (flat_map (line_text names) ls) rest)
    ∙ public_back names h e l (flat_map (line_text names) ls ++ rest) known f.0
    ∙ lines_back names h (record { event = e.event; op = e.op; lines = e.lines ++ l ∷ [] }) ls rest known f.1
    ∙ ap (λ all. read_lines names (record { history = h; entry = Some (record { event = e.event; op = e.op; lines = all }); event = None }) (lines_in rest)) (append_assoc e.lines (l ∷ []) ls)

-- what is read of a whole history
abbrev all_read : List Entry → Reading
all_read [] = nothing_read
all_read (e ∷ h) = record { history = h; entry = Some e; event = None }

all_closed : (h : List Entry) → closed (all_read h).entry (all_read h).history ≡ h
all_closed [] = refl
all_closed (e ∷ h) = refl

event_step : (names : List Name) (r : Reading) (e : Entry) (rest : Text) → are_client_names names ≡ true → IsEntry names e
    → read_lines names r (lines_in (event_text names e.event ++ rest)) ≡ read_lines names (with_event e.event r) (lines_in rest)
event_step names r e rest known f =
    marked_back names r 62 (event_words names e.event) rest refl refl (event_shown names e.event known f.0) ∙ rw (event_back names e.event known f.0) refl

op_step : (names : List Name) (h : List Entry) (e : Entry) (rest : Text) → are_client_names names ≡ true → IsEntry names e
    → read_lines names (record { history = h; entry = None; event = Some e.event }) (lines_in (op_text names e.op ++ rest))
    ≡ read_lines names (record { history = h; entry = Some (record { event = e.event; op = e.op; lines = [] }); event = None }) (lines_in rest)
op_step names h e rest known f =
    marked_back names _ 46 (op_words names e.op) rest refl refl (op_shown names e.op known f.1) ∙ rw (op_back names e.op known f.1) refl

entry_back : (names : List Name) (h : List Entry) (e : Entry) (rest : Text) → are_client_names names ≡ true → IsEntry names e
    → read_lines names (all_read h) (lines_in (entry_text names e ++ rest)) ≡ read_lines names (all_read (e ∷ h)) (lines_in rest)
entry_back names h e rest known f =
    let t = event_text names e.event in
    let o = op_text names e.op in
    let ls = flat_map (line_text names) e.lines in
    ap (λ x. read_lines names (all_read h) (lines_in x)) (append_assoc (t ++ o) ls rest ∙ append_assoc t o (ls ++ rest))
    ∙ event_step names (all_read h) e (o ++ (ls ++ rest)) known f
    ∙ ap (λ x. read_lines names (record { history = x; entry = None; event = Some e.event }) (lines_in (o ++ (ls ++ rest)))) (all_closed h)
    ∙ op_step names h e (ls ++ rest) known f
    ∙ lines_back names h (record { event = e.event; op = e.op; lines = [] }) e.lines rest known f.2

text_back : (names : List Name) (h : List Entry) (rest : Text) → are_client_names names ≡ true → AllByRecursion (IsEntry names) h
    → read_lines names nothing_read (lines_in (history_text names h ++ rest)) ≡ read_lines names (all_read h) (lines_in rest)
text_back names [] rest known f = refl
text_back names (e ∷ h) rest known f =
    ap (λ x. read_lines names nothing_read (lines_in x)) (append_assoc (history_text names h) (entry_text names e) rest)
    ∙ text_back names h (entry_text names e ++ rest) known f.1
    ∙ entry_back names h e rest known f.0

pub history_back : (names : List Name) (h : List Entry) → IsWellFormed names h → history_of names (history_text names h) ≡ Some h
history_back names h f =
    let read : read_lines names nothing_read (lines_in (history_text names h)) ≡ Some (all_read h) = ap (λ x. read_lines names nothing_read (lines_in x)) (sym (append-nil (history_text names h))) ∙ text_back names h [] f.0 f.1 in
    rw read (ap Some (all_closed h))
