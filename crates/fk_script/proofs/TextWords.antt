-- The words of a line that was read.
use Rattle.std.proofs.Common.{◌≡◌, ◌≢◌, ℕ, zero, suc, ◌<◌, ◌≤◌, Bool, true, false, cond, List, [], ◌∷◌, ◌++◌, length, slice_index, refl, sym, ◌∙◌, ap, subst, arith, inl, inr, ltb, lit<, ◌+◌, ◌/◌}
use Rattle.std.specs.Prelude.{◌==◌, ◌&&◌, nat_lt, not, filter}
use Rattle.std.specs.List.{list_all, slice_split, onto_first, AllByRecursion}
use Rattle.std.specs.Str.{IsUtf8}
use lib.Utf8.{scalars, scalar, encode, encodes, next}
use Rattle.base64.specs.GeneralPurpose.{IsBytes}
use Rattle.std.proofs.lemmas.Bool.{and_parts, and_from, cases_eq, cond_both, ltb-true}
use Rattle.std.proofs.lemmas.List.Splits.{length-slice_split}
use Rattle.std.proofs.lemmas.Bool.Decides.{nat_tests}
use Rattle.std.proofs.lemmas.Str.{IsUtf8-append, IsUtf8-encode, IsUtf8-nil, encode_ascii}
use Rattle.fk_script.specs.Lines.{Word, words, is_empty, is_space}
use Rattle.fk_script.proofs.CleanWords.{is_inner, AreWords}
use Rattle.fk_script.proofs.JoinedLines.{is_fed}
use Rattle.fk_script.proofs.CodedData.{all_append}

abbrev pub is_spaceless : ℕ → Bool
is_spaceless byte = not (byte == 32)

abbrev is_byte : ℕ → Bool
is_byte byte = nat_lt byte 256

-- a piece between spaces
record IsPiece (w : Word) : Type 0 where
  spaceless : list_all is_spaceless w ≡ true
  fed : list_all is_fed w ≡ true
  text : IsUtf8 w

all_parts : (p : ℕ → Bool) (xs ys : List ℕ) → list_all p (xs ++ ys) ≡ true → (list_all p xs ≡ true) × (list_all p ys ≡ true)
all_parts p [] ys h = (refl, h)
all_parts p (x ∷ xs) ys h =
    let both = and_parts (p x) (list_all p (xs ++ ys)) h in
    let rest = all_parts p xs ys both.1 in
    (and_from (p x) (list_all p xs) both.0 rest.0, rest.1)

scalar_below : (c : ℕ) → scalar c ≡ true → c < 1114112
scalar_below c s = grind (arith, nat_tests)

-- the bytes of one character
encoded_by : (P : List ℕ → Type 0) (c : ℕ) → scalar c ≡ true
    → (c < 128 → P (c ∷ []))
    → ((a b : ℕ) → 128 ≤ a → a < 256 → 128 ≤ b → b < 256 → P (a ∷ b ∷ []))
    → ((a b d : ℕ) → 128 ≤ a → a < 256 → 128 ≤ b → b < 256 → 128 ≤ d → d < 256 → P (a ∷ b ∷ d ∷ []))
    → ((a b d e : ℕ) → 128 ≤ a → a < 256 → 128 ≤ b → b < 256 → 128 ≤ d → d < 256 → 128 ≤ e → e < 256 → P (a ∷ b ∷ d ∷ e ∷ []))
    → P (encode c)
unfolding encode
encoded_by P c s one two three four =
    cond_both (ltb c 128) (c ∷ []) (cond (ltb c 2048) ((192 + c / 64) ∷ next c ∷ []) (cond (ltb c 65536) ((224 + c / 4096) ∷ next (c / 64) ∷ next c ∷ []) ((240 + c / 262144) ∷ next (c / 4096) ∷ next (c / 64) ∷ next c ∷ []))) P
    (λ e. one (ltb-true c 128 e))
    (λ _. cond_both (ltb c 2048) ((192 + c / 64) ∷ next c ∷ []) (cond (ltb c 65536) ((224 + c / 4096) ∷ next (c / 64) ∷ next c ∷ []) ((240 + c / 262144) ∷ next (c / 4096) ∷ next (c / 64) ∷ next c ∷ [])) P
    (λ e. let small : c < 2048 = ltb-true c 2048 e in two (192 + c / 64) (next c) (omega arith) (omega arith) (omega arith) (omega arith))
    (λ _. cond_both (ltb c 65536) ((224 + c / 4096) ∷ next (c / 64) ∷ next c ∷ []) ((240 + c / 262144) ∷ next (c / 4096) ∷ next (c / 64) ∷ next c ∷ []) P
    (λ e. let small : c < 65536 = ltb-true c 65536 e in three (224 + c / 4096) (next (c / 64)) (next c) (omega arith) (omega arith) (omega arith) (omega arith) (omega arith) (omega arith))
    (λ _. let small : c < 1114112 = scalar_below c s in four (240 + c / 262144) (next (c / 4096)) (next (c / 64)) (next c) (omega arith) (omega arith) (omega arith) (omega arith) (omega arith) (omega arith) (omega arith) (omega arith))))

byte_test : (b : ℕ) → b < 256 → is_byte b ≡ true
byte_test b h = grind (arith, nat_tests)

bytes_all : (cs : List ℕ) → scalars cs ≡ true → list_all is_byte (encodes cs) ≡ true
bytes_all [] h = refl
bytes_all (c ∷ cs) h =
    let both = and_parts (scalar c) (scalars cs) h in
    all_append is_byte (encode c) (encodes cs)
    (encoded_by (λ w. list_all is_byte w ≡ true) c both.0
    (λ l. rw (byte_test c (omega arith)) refl)
    (λ a b _ f _ g. rw (byte_test a f, byte_test b g) refl)
    (λ a b d _ f _ g _ h. rw (byte_test a f, byte_test b g, byte_test d h) refl)
    (λ a b d e _ f _ g _ h _ i. rw (byte_test a f, byte_test b g, byte_test d h, byte_test e i) refl))
    (bytes_all cs both.1)

bytes_at : (bs : List ℕ) → list_all is_byte bs ≡ true → (i : ℕ) → slice_index bs i < 256
bytes_at [] h i = lit< tt
bytes_at (b ∷ bs) h zero = ltb-true b 256 (and_parts (is_byte b) (list_all is_byte bs) h).0
bytes_at (b ∷ bs) h (suc i) = bytes_at bs (and_parts (is_byte b) (list_all is_byte bs) h).1 i

-- bytes of a text are bytes
pub utf8_bytes : (bs : List ℕ) → IsUtf8 bs → IsBytes bs
utf8_bytes bs u = bytes_at bs (subst (λ x. list_all is_byte x ≡ true) u.1.1 (bytes_all u.0 u.1.0))

above_space : (b : ℕ) → 128 ≤ b → is_spaceless b ≡ true
above_space b h = grind (arith, nat_tests)

other_than_space : (b : ℕ) → b ≢ 32 → is_spaceless b ≡ true
other_than_space b h = grind (arith, nat_tests)

spaceless_char : (c : ℕ) → scalar c ≡ true → c ≢ 32 → list_all is_spaceless (encode c) ≡ true
spaceless_char c s ne =
    encoded_by (λ w. list_all is_spaceless w ≡ true) c s
    (λ l. rw (other_than_space c ne) refl)
    (λ a b f _ g _. rw (above_space a f, above_space b g) refl)
    (λ a b d f _ g _ h _. rw (above_space a f, above_space b g, above_space d h) refl)
    (λ a b d e f _ g _ h _ i _. rw (above_space a f, above_space b g, above_space d h, above_space e i) refl)

-- bytes in front of the first piece
onto_front : List ℕ → List Word → List Word
onto_front [] ps = ps
onto_front (x ∷ xs) ps = onto_first x (onto_front xs ps)

step_front : (t : Bool) (x : ℕ) (xs rest : List ℕ) → (not t && list_all is_spaceless xs) ≡ true
    → (list_all is_spaceless xs ≡ true → slice_split is_space (xs ++ rest) ≡ onto_front xs (slice_split is_space rest))
    → cond t ([] ∷ slice_split is_space (xs ++ rest)) (onto_first x (slice_split is_space (xs ++ rest))) ≡ onto_first x (onto_front xs (slice_split is_space rest))
step_front true x xs rest h i = cc
step_front false x xs rest h i = ap (onto_first x) (i h)

front_split : (xs rest : List ℕ) → list_all is_spaceless xs ≡ true → slice_split is_space (xs ++ rest) ≡ onto_front xs (slice_split is_space rest)
unfolding onto_front
front_split [] rest h = refl
front_split (x ∷ xs) rest h = step_front (x == 32) x xs rest h (front_split xs rest)

onto_cons : (xs p : List ℕ) (ps : List Word) → onto_front xs (p ∷ ps) ≡ (xs ++ p) ∷ ps
unfolding onto_front
onto_cons [] p ps = refl
onto_cons (x ∷ xs) p ps = ap (onto_first x) (onto_cons xs p ps)

onto_pieces : (xs : List ℕ) (ps : List Word) → IsPiece xs → 0 < length ps → AllByRecursion IsPiece ps → AllByRecursion IsPiece (onto_front xs ps)
onto_pieces xs [] x full h = absurd (omega arith)
onto_pieces xs (p ∷ ps) x full h = rw onto_cons (
  record {
    spaceless = all_append is_spaceless xs p x.spaceless h.0.spaceless;
    fed = all_append is_fed xs p x.fed h.0.fed;
    text = IsUtf8-append xs p x.text h.0.text;
  },
  h.1,
)

full_split : (bs : List ℕ) → 0 < length (slice_split is_space bs)
full_split bs = omega (arith, length-slice_split is_space bs)

pieces : (cs : List ℕ) → scalars cs ≡ true → list_all is_fed (encodes cs) ≡ true → AllByRecursion IsPiece (slice_split is_space (encodes cs))
pieces [] s f = (record { spaceless = refl; fed = refl; text = IsUtf8-nil }, tt)
pieces (c ∷ cs) s f =
    let both = and_parts (scalar c) (scalars cs) s in
    let fed = all_parts is_fed (encode c) (encodes cs) f in
    let more = pieces cs both.1 fed.1 in
    elim (cases_eq c 32) [
      | inl e ↦
          let one : encode c ≡ 32 ∷ [] = encode_ascii c (omega arith) ∙ ap (λ (x : ℕ). x ∷ []) e in
          rw one (record { spaceless = refl; fed = refl; text = IsUtf8-nil }, more)
      | inr ne ↦
          let spaceless = spaceless_char c both.0 ne in
          rw (front_split (encode c) (encodes cs) spaceless)
          (onto_pieces (encode c) (slice_split is_space (encodes cs)) (record { spaceless = spaceless; fed = fed.0; text = IsUtf8-encode c both.0 }) (full_split (encodes cs)) more)
    ]

inner_from : (w : List ℕ) → list_all is_spaceless w ≡ true → list_all is_fed w ≡ true → list_all is_inner w ≡ true
inner_from [] g h = refl
inner_from (b ∷ bs) g h =
    let s = and_parts (is_spaceless b) (list_all is_spaceless bs) g in
    let t = and_parts (is_fed b) (list_all is_fed bs) h in
    and_from (is_inner b) (list_all is_inner bs) (and_from (is_spaceless b) (is_fed b) s.0 t.0) (inner_from bs s.1 t.1)

step_words : (t : Bool) (p : Word) (ps : List Word) → is_empty p ≡ t → IsPiece p → AreWords (filter (λ w. not (is_empty w)) ps)
    → AreWords (cond (not t) (p ∷ filter (λ w. not (is_empty w)) ps) (filter (λ w. not (is_empty w)) ps))
step_words true p ps e x h = h
step_words false p ps e x h = (record { full = e; inner = inner_from p x.spaceless x.fed; text = x.text }, h)

full_pieces : (ps : List Word) → AllByRecursion IsPiece ps → AreWords (filter (λ w. not (is_empty w)) ps)
full_pieces [] h = tt
full_pieces (p ∷ ps) h = step_words (is_empty p) p ps refl h.0 (full_pieces ps h.1)

pub words_read : (text : List ℕ) → IsUtf8 text → list_all is_fed text ≡ true → AreWords (words text)
words_read text u f =
    full_pieces (slice_split is_space text)
    (subst (λ x. AllByRecursion IsPiece (slice_split is_space x)) u.1.1 (pieces u.0 u.1.0 (subst (λ x. list_all is_fed x ≡ true) (sym u.1.1) f)))
