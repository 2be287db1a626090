-- Printed lines, cut into lines and words again.
use Rattle.std.proofs.Common.{◌≡◌, ℕ, Bool, true, false, cond, List, [], ◌∷◌, ◌++◌, refl, ◌∙◌, ap, codes, append_assoc, lit<}
use Rattle.std.specs.Prelude.{◌==◌, ◌&&◌, not, filter}
use Rattle.std.specs.List.{list_all, slice_split, onto_first}
use Rattle.std.specs.Str.{IsUtf8}
use Rattle.std.proofs.lemmas.List.{append-nil}
use Rattle.std.proofs.lemmas.Bool.{and_parts, and_from}
use Rattle.std.proofs.lemmas.Str.{IsUtf8-append, IsUtf8-from_ascii}
use Rattle.std.proofs.lemmas.Str.Ascii.{IsAscii-nil, IsAscii-cons}
use Rattle.fk_print.specs.Words.{spaced}
use Rattle.fk_script.specs.Lines.{Word, lines, onto_line, words, is_empty, is_space}
use Rattle.fk_script.specs.Printed.{line_text}
use Rattle.fk_script.proofs.CleanWords.{is_inner, AreWords}

-- no line feed
abbrev pub is_fed : ℕ → Bool
is_fed byte = not (byte == 10)

step_line : (t : Bool) (b : ℕ) (bs rest : List ℕ) → (not t && list_all is_fed bs) ≡ true
    → (list_all is_fed bs ≡ true → lines (bs ++ 10 ∷ rest) ≡ record { text = bs; ended = true } ∷ lines rest)
    → cond t (record { text = []; ended = true } ∷ lines (bs ++ 10 ∷ rest)) (onto_line b (lines (bs ++ 10 ∷ rest))) ≡ record { text = b ∷ bs; ended = true } ∷ lines rest
step_line true b bs rest h i = cc
step_line false b bs rest h i = ap (onto_line b) (i h)

-- a line feed ends the first line
pub lines_at : (text rest : List ℕ) → list_all is_fed text ≡ true → lines (text ++ 10 ∷ rest) ≡ record { text = text; ended = true } ∷ lines rest
lines_at [] rest h = refl
lines_at (b ∷ bs) rest h = step_line (b == 10) b bs rest h (lines_at bs rest)

step_cut : (t : Bool) (b : ℕ) (bs rest : List ℕ) → (not t && list_all is_inner bs) ≡ true
    → (list_all is_inner bs ≡ true → slice_split is_space (bs ++ 32 ∷ rest) ≡ bs ∷ slice_split is_space rest)
    → cond t ([] ∷ slice_split is_space (bs ++ 32 ∷ rest)) (onto_first b (slice_split is_space (bs ++ 32 ∷ rest))) ≡ (b ∷ bs) ∷ slice_split is_space rest
step_cut true b bs rest h i = cc
step_cut false b bs rest h i = ap (onto_first b) (i h)

-- without the test for a line feed
no_space : (s t r : Bool) → ((not s && not t) && r) ≡ true → (not s && r) ≡ true
no_space false false r h = h
no_space true t r h = h
no_space false true r h = cc

-- a space ends the first word
pub cut_at : (word rest : List ℕ) → list_all is_inner word ≡ true → slice_split is_space (word ++ 32 ∷ rest) ≡ word ∷ slice_split is_space rest
cut_at [] rest h = refl
cut_at (b ∷ bs) rest h = step_cut (b == 32) b bs rest (no_space (b == 32) (b == 10) (list_all is_inner bs) h) (cut_at bs rest)

step_uncut : (t : Bool) (b : ℕ) (bs : List ℕ) → (not t && list_all is_inner bs) ≡ true
    → (list_all is_inner bs ≡ true → slice_split is_space bs ≡ bs ∷ [])
    → cond t ([] ∷ slice_split is_space bs) (onto_first b (slice_split is_space bs)) ≡ (b ∷ bs) ∷ []
step_uncut true b bs h i = cc
step_uncut false b bs h i = ap (onto_first b) (i h)

pub uncut : (word : List ℕ) → list_all is_inner word ≡ true → slice_split is_space word ≡ word ∷ []
uncut [] h = refl
uncut (b ∷ bs) h = step_uncut (b == 32) b bs (no_space (b == 32) (b == 10) (list_all is_inner bs) h) (uncut bs)

kept : (w : Word) (ws : List Word) → is_empty w ≡ false → filter (λ word. not (is_empty word)) (w ∷ ws) ≡ w ∷ filter (λ word. not (is_empty word)) ws
kept w ws full = rw full refl

-- words with single spaces between them are cut into just these words
pub words_joined : (w : Word) (ws : List Word) → AreWords (w ∷ ws) → words (w ++ spaced ws) ≡ w ∷ ws
words_joined w [] a = ap words (append-nil w) ∙ ap (filter (λ word. not (is_empty word))) (uncut w a.0.inner) ∙ kept w [] a.0.full
words_joined w (v ∷ vs) a =
    ap (filter (λ word. not (is_empty word))) (cut_at w (v ++ spaced vs) a.0.inner)
    ∙ kept w (slice_split is_space (v ++ spaced vs)) a.0.full
    ∙ ap (λ rest. w ∷ rest) (words_joined v vs a.1)

fed_append : (xs ys : List ℕ) → list_all is_fed xs ≡ true → list_all is_fed ys ≡ true → list_all is_fed (xs ++ ys) ≡ true
fed_append [] ys g h = h
fed_append (x ∷ xs) ys g h =
    let both = and_parts (is_fed x) (list_all is_fed xs) g in
    and_from (is_fed x) (list_all is_fed (xs ++ ys)) both.0 (fed_append xs ys both.1 h)

fed_test : (s t r u : Bool) → ((not s && not t) && r) ≡ true → (r ≡ true → u ≡ true) → (not t && u) ≡ true
fed_test false false r u h i = i h
fed_test true t r u h i = cc
fed_test false true r u h i = cc

fed_word : (word : List ℕ) → list_all is_inner word ≡ true → list_all is_fed word ≡ true
fed_word [] h = refl
fed_word (b ∷ bs) h = fed_test (b == 32) (b == 10) (list_all is_inner bs) (list_all is_fed bs) h (fed_word bs)

pub fed_joined : (w : Word) (ws : List Word) → AreWords (w ∷ ws) → list_all is_fed (w ++ spaced ws) ≡ true
fed_joined w [] a = fed_append w [] (fed_word w a.0.inner) refl
fed_joined w (v ∷ vs) a = fed_append w (32 ∷ (v ++ spaced vs)) (fed_word w a.0.inner) (fed_joined v vs a.1)

pub text_joined : (w : Word) (ws : List Word) → AreWords (w ∷ ws) → IsUtf8 (w ++ spaced ws)
text_joined w [] a = rw append-nil a.0.text
text_joined w (v ∷ vs) a =
    IsUtf8-append w (32 ∷ (v ++ spaced vs)) a.0.text
    (IsUtf8-append (32 ∷ []) (v ++ spaced vs) (IsUtf8-from_ascii (32 ∷ []) (IsAscii-cons 32 [] (lit< tt) IsAscii-nil)) (text_joined v vs a.1))

-- what a printed line and what is printed behind it are cut into
pub lines_printed : (w : Word) (ws : List Word) (rest : List ℕ) → AreWords (w ∷ ws)
    → lines (line_text (w ∷ ws) ++ rest) ≡ record { text = w ++ spaced ws; ended = true } ∷ lines rest
lines_printed w ws rest a =
    ap lines (append_assoc (w ++ spaced ws) (codes "\n") rest) ∙ lines_at (w ++ spaced ws) rest (fed_joined w ws a)
