-- Data in base64 reads back, and its word shows in a line.
use Rattle.std.proofs.Common.{◌≡◌, ℕ, zero, suc, ◌+◌, ◌*◌, ◌/◌, ◌%◌, Bool, true, false, List, [], ◌∷◌, ◌++◌, Some, length, slice_index, replicate, refl, ap, arith, codes}
use Rattle.std.specs.Prelude.{◌==◌, ◌&&◌, not}
use Rattle.std.specs.List.{list_all}
use Rattle.std.specs.Result.{result_ok}
use Rattle.std.proofs.lemmas.Bool.{and_parts, and_from}
use Rattle.std.proofs.lemmas.Bool.Decides.{nat_tests}
use Rattle.std.proofs.lemmas.Str.{IsUtf8-from_ascii}
use Rattle.base64.specs.Engines.{standard}
use Rattle.base64.specs.GeneralPurpose.{IsBytes, encode_of}
use Rattle.base64.specs.Rfc4648.{encode_symbols, padding_len}
use Rattle.base64.proofs.EngineFacts.{IsAscii-encode_of, decode_of-encode_of}
use Rattle.fk_script.specs.Lines.{Word, is, is_empty}
use Rattle.fk_script.specs.Values.{decoded}
use Rattle.fk_script.proofs.CleanWords.{is_inner, IsWord}

-- a byte that doesn't end a word, and isn't `;`
abbrev pub is_symbol : ℕ → Bool
is_symbol byte = is_inner byte && not (byte == 59)

symbol_at : (t : List ℕ) (k : ℕ) → list_all is_symbol t ≡ true → is_symbol (slice_index t k) ≡ true
symbol_at [] k h = refl
symbol_at (x ∷ xs) zero h = (and_parts (is_symbol x) (list_all is_symbol xs) h).0
symbol_at (x ∷ xs) (suc k) h = symbol_at xs k (and_parts (is_symbol x) (list_all is_symbol xs) h).1

pub all_append : (p : ℕ → Bool) (xs ys : List ℕ) → list_all p xs ≡ true → list_all p ys ≡ true → list_all p (xs ++ ys) ≡ true
all_append p [] ys g h = h
all_append p (x ∷ xs) ys g h =
    let both = and_parts (p x) (list_all p xs) g in
    and_from (p x) (list_all p (xs ++ ys)) both.0 (all_append p xs ys both.1 h)

front : (t : List ℕ) (k : ℕ) (rest : Bool) → list_all is_symbol t ≡ true → rest ≡ true → (is_symbol (slice_index t k) && rest) ≡ true
front t k rest h e = and_from (is_symbol (slice_index t k)) rest (symbol_at t k h) e

symbols : (t m : List ℕ) → list_all is_symbol t ≡ true → list_all is_symbol (encode_symbols t m) ≡ true
unfolding encode_symbols
symbols t [] h = refl
symbols t (a ∷ []) h = front t (a / 4) _ h (front t (a % 4 * 16) true h refl)
symbols t (a ∷ b ∷ []) h = front t (a / 4) _ h (front t (a % 4 * 16 + b / 16) _ h (front t (b % 16 * 4) true h refl))
symbols t (a ∷ b ∷ c ∷ rest) h =
    front t (a / 4) _ h (front t (a % 4 * 16 + b / 16) _ h (front t (b % 16 * 4 + c / 64) _ h (front t (c % 64) (list_all is_symbol (encode_symbols t rest)) h (symbols t rest h))))

padding : (n : ℕ) → list_all is_symbol (replicate n 61) ≡ true
padding zero = refl
padding (suc n) = padding n

pub encoded_symbols : (m : List ℕ) → list_all is_symbol (encode_of standard m) ≡ true
encoded_symbols m = all_append is_symbol (encode_symbols standard.encode_table m) (replicate (padding_len (length m)) 61) (symbols standard.encode_table m refl) (padding (padding_len (length m)))

symbols_inner : (w : List ℕ) → list_all is_symbol w ≡ true → list_all is_inner w ≡ true
symbols_inner [] h = refl
symbols_inner (b ∷ bs) h =
    let both = and_parts (is_symbol b) (list_all is_symbol bs) h in
    and_from (is_inner b) (list_all is_inner bs) (and_parts (is_inner b) (not (b == 59)) both.0).0 (symbols_inner bs both.1)

pub empty_cons : (b : ℕ) (bs : List ℕ) → is_empty (b ∷ bs) ≡ false
empty_cons b bs = grind (arith, nat_tests)

full : (t : List ℕ) (b : ℕ) (bs pad : List ℕ) → is_empty (encode_symbols t (b ∷ bs) ++ pad) ≡ false
unfolding encode_symbols
full t b [] pad = empty_cons (slice_index t (b / 4)) (slice_index t (b % 4 * 16) ∷ pad)
full t b (c ∷ []) pad = empty_cons (slice_index t (b / 4)) (slice_index t (b % 4 * 16 + c / 16) ∷ slice_index t (c % 16 * 4) ∷ pad)
full t b (c ∷ d ∷ bs) pad = empty_cons (slice_index t (b / 4)) (slice_index t (b % 4 * 16 + c / 16) ∷ slice_index t (c % 16 * 4 + d / 64) ∷ slice_index t (d % 64) ∷ (encode_symbols t bs ++ pad))

pub coded_word : (b : ℕ) (bs : List ℕ) → IsWord (encode_of standard (b ∷ bs))
coded_word b bs = record {
  full = full standard.encode_table b bs (replicate (padding_len (length (b ∷ bs))) 61);
  inner = symbols_inner (encode_of standard (b ∷ bs)) (encoded_symbols (b ∷ bs));
  text = IsUtf8-from_ascii (encode_of standard (b ∷ bs)) (IsAscii-encode_of standard (b ∷ bs));
}

-- a word of symbols isn't `;`
pub no_semicolon : (w : Word) → list_all is_symbol w ≡ true → is w (codes ";") ≡ false
no_semicolon [] h = refl
no_semicolon (b ∷ bs) h = test b (is bs []) (and_parts (is_symbol b) (list_all is_symbol bs) h).0
  where
    test : (b : ℕ) (r : Bool) → is_symbol b ≡ true → ((b == 59) && r) ≡ false
    test b r h = grind (arith, nat_tests)

pub decoded_back : (m : List ℕ) → IsBytes m → decoded (encode_of standard m) ≡ Some m
decoded_back m bytes = ap result_ok (decode_of-encode_of standard m refl bytes)
