-- What was written is a front of a text.
use Rattle.std.proofs.Common.{◌≡◌, ℕ, ◌+◌, ◌<◌, List, [], ◌∷◌, ◌++◌, length, take, drop, Option, Some, None, refl, sym, ◌∙◌, ap, subst, get_or, reverse, append_assoc}
use Rattle.std.proofs.lemmas.List.{reverse-append, reverse-reverse, append-nil, take-append-drop}
use Rattle.std.specs.Io.KnownBytes.{Appends}
use Rattle.fk_base.specs.Path.{Name}
use Rattle.fk_base.specs.Sink.{AppendsFront}
use Rattle.fk_print.specs.EntryText.{entry_text, history_text}
use Rattle.fk_print.specs.declared.entry.Entry.{Entry}
use Rattle.fk_run.specs.Statuses.{WritesFront}
use Rattle.fk_run.proofs.Texts.{appends_both, appends_nothing, text_more, text_of_first}

pub nothing : (x : Option (List ℕ)) (text : List ℕ) → WritesFront x x text
nothing x text = record { front = []; rest = text; cut = refl; written = appends_nothing x }

pub front_of : (x y : Option (List ℕ)) (text : List ℕ) → AppendsFront x y text → WritesFront x y text
front_of x y text a = record { front = take a.0 text; rest = drop a.0 text; cut = sym (take-append-drop a.0 text); written = a.2 }

-- the older entries' text comes first
history_text-append : (names : List Name) (g h : List Entry) → history_text names (g ++ h) ≡ history_text names h ++ history_text names g
history_text-append names [] h = sym (append-nil (history_text names h))
history_text-append names (e ∷ g) h = rw (history_text-append names g h, append_assoc) refl

-- the text of the entries behind the first ones
abbrev text_behind : List Name → ℕ → List Entry → List ℕ
text_behind names n es = history_text names (reverse (drop n es))

whole : (names : List Name) (n : ℕ) (es : List Entry) → history_text names (reverse es) ≡ text_of_first names n es ++ text_behind names n es
whole names n es =
    ap (λ (x : List Entry). history_text names (reverse x)) (sym (take-append-drop n es))
    ∙ ap (history_text names) (reverse-append (take n es) (drop n es))
    ∙ history_text-append names (reverse (drop n es)) (reverse (take n es))

all_of : (names : List Name) (n : ℕ) (h : List Entry) → history_text names h ≡ text_of_first names n (reverse h) ++ text_behind names n (reverse h)
all_of names n h = ap (history_text names) (sym (reverse-reverse h)) ∙ whole names n (reverse h)

-- the text of the entries in memory, which keeps the oldest first
all_at : (names : List Name) (n : ℕ) (h es : List Entry) → es ≡ reverse h → history_text names h ≡ text_of_first names n es ++ text_behind names n es
all_at names n h es e = subst (λ (x : List Entry). history_text names h ≡ text_of_first names n x ++ text_behind names n x) (sym e) (all_of names n h)

-- whole entries were written
pub entries : (names : List Name) (h : List Entry) (n : ℕ) (es : List Entry) (x y : Option (List ℕ)) → es ≡ reverse h → Appends x y (text_of_first names n es) → WritesFront x y (history_text names h)
entries names h n es x y e a = record { front = text_of_first names n es; rest = text_behind names n es; cut = all_at names n h es e; written = a }

seam : (a b c d : List ℕ) → (a ++ (b ++ c)) ++ d ≡ (a ++ b) ++ (c ++ d)
seam a b c d = rw (append_assoc, append_assoc, append_assoc) refl

-- whole entries were written, and a front of the next
pub entry : (names : List Name) (h : List Entry) (n : ℕ) (es : List Entry) (e : Entry) (piece : List ℕ) (x y z : Option (List ℕ)) → es ≡ reverse h → n < length es → e ≡ get_or es n e → piece ≡ entry_text names e
    → Appends x y (text_of_first names n es) → AppendsFront y z piece → WritesFront x z (history_text names h)
entry names h n es e piece x y z same l is p a f =
    let first = text_of_first names n es in
    let next : text_of_first names (n + 1) es ≡ first ++ (take f.0 piece ++ drop f.0 piece)
    = text_more names es n e l ∙ ap (λ (t : List ℕ). first ++ t) (ap (entry_text names) (sym is) ∙ sym p ∙ sym (take-append-drop f.0 piece)) in
    record {
      front = first ++ take f.0 piece;
      rest = drop f.0 piece ++ text_behind names (n + 1) es;
      cut = all_at names (n + 1) h es same ∙ ap (λ (t : List ℕ). t ++ text_behind names (n + 1) es) next ∙ seam first (take f.0 piece) (drop f.0 piece) (text_behind names (n + 1) es);
      written = appends_both x y z first (take f.0 piece) a f.2;
    }
