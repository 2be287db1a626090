-- What a data word reads back to.
use Rattle.std.proofs.Common.{◌≡◌, ℕ, ◌<◌, ◌+◌, ◌*◌, ◌/◌, ◌%◌, Bool, true, false, cond, List, [], ◌∷◌, ◌++◌, codes, length, get_or, Some, refl, ap, arith}
use Prim.Native.Nat.{suc, zero}
use Rattle.std.specs.Prelude.{◌&&◌, nat_le, replicate}
use Rattle.std.specs.List.{list_all}
use Rattle.std.specs.Result.{result_ok}
use Rattle.std.proofs.lemmas.Bool.Decides.{nat_tests}
use Rattle.base64.specs.Engines.{standard}
use Rattle.base64.specs.GeneralPurpose.{IsBytes, encode_of}
use Rattle.base64.specs.Rfc4648.{encode_symbols, padding_len}
use Rattle.base64.proofs.EngineFacts.{decode_of-encode_of}
use Rattle.fk_print.specs.Words.{Text, data_word, is_plain}
use Rattle.fk_base.specs.Limits.{IsData}
use Rattle.fk_read.specs.Cut.{words_in}
use Rattle.fk_read.specs.Reads.{take}
use Rattle.fk_read.specs.ReadWords.{data_of}
use Rattle.fk_read.proofs.WordsBack.{bare_append, is_bare, take_back}
use Rattle.fk_read.proofs.Shown.{bare_shown, is_shown}
use Rattle.fk_base.proofs.Logic.{and_both, and_left, and_right}

-- every symbol of base64 is beyond the space

at_place : (p : ℕ → Bool) (xs : List ℕ) (i : ℕ) → list_all p xs ≡ true → i < length xs → p (get_or xs i 0) ≡ true
at_place p [] i e l = absurd (omega (arith, l))
at_place p (x ∷ xs) zero e l = and_left (p x) (list_all p xs) e
at_place p (x ∷ xs) (suc i) e l = at_place p xs i (and_right (p x) (list_all p xs) e) (omega (arith, l))

abbrev is_mark : ℕ → Bool
is_mark b = nat_le 33 b

symbol : (i : ℕ) → i < 64 → nat_le 33 (get_or standard.encode_table i 0) ≡ true
symbol i l = at_place is_mark standard.encode_table i refl l

four_bare : (a b c d : ℕ) (rest : Text) → nat_le 33 a ≡ true → nat_le 33 b ≡ true → nat_le 33 c ≡ true → nat_le 33 d ≡ true → is_bare rest ≡ true → is_bare (a ∷ b ∷ c ∷ d ∷ rest) ≡ true
four_bare a b c d rest e f g h r = rw (e, f, g, h, r) refl

bytes_behind : (a : ℕ) (m : List ℕ) → IsBytes (a ∷ m) → IsBytes m
bytes_behind a m e i = e (suc i)

symbols_bare : (m : List ℕ) → IsBytes m → is_bare (encode_symbols standard.encode_table m) ≡ true
unfolding encode_symbols
symbols_bare [] e = refl
symbols_bare (a ∷ []) e =
    let small : a < 256 = e 0 in
    rw (symbol (a / 4) (omega arith), symbol (a % 4 * 16) (omega arith)) refl
symbols_bare (a ∷ b ∷ []) e =
    let small : a < 256 = e 0 in
    let small_b : b < 256 = e 1 in
    rw (symbol (a / 4) (omega arith), symbol (a % 4 * 16 + b / 16) (omega arith), symbol (b % 16 * 4) (omega arith)) refl
symbols_bare (a ∷ b ∷ c ∷ rest) e =
    let small : a < 256 = e 0 in
    let small_b : b < 256 = e 1 in
    let small_c : c < 256 = e 2 in
    four_bare _ _ _ _ (encode_symbols standard.encode_table rest) (symbol (a / 4) (omega arith)) (symbol (a % 4 * 16 + b / 16) (omega arith)) (symbol (b % 16 * 4 + c / 64) (omega arith)) (symbol (c % 64) (omega arith))
    (symbols_bare rest (bytes_behind c rest (bytes_behind b (c ∷ rest) (bytes_behind a (b ∷ c ∷ rest) e))))

pads_bare : (n : ℕ) → is_bare (replicate n 61) ≡ true
pads_bare zero = refl
pads_bare (suc n) = pads_bare n

bare_base64 : (m : List ℕ) → IsBytes m → is_bare (encode_of standard m) ≡ true
bare_base64 m e = bare_append (encode_symbols standard.encode_table m) (replicate (padding_len (length m)) 61) (symbols_bare m e) (pads_bare (padding_len (length m)))

plain_bare : (bytes : List ℕ) → list_all is_plain bytes ≡ true → is_bare bytes ≡ true
plain_bare [] e = refl
plain_bare (b ∷ bytes) e = let s = plain_mark b (list_all is_plain bytes) e in and_both (nat_le 33 b) (is_bare bytes) s.0 (plain_bare bytes s.1)
  where
    plain_mark : (b : ℕ) (rest : Bool) → (is_plain b && rest) ≡ true → (nat_le 33 b ≡ true) × (rest ≡ true)
    plain_mark b rest e = (grind (arith, nat_tests), grind (arith, nat_tests))

bare_data : (bytes : List ℕ) → IsData bytes → is_bare (data_word bytes) ≡ true
bare_data bytes e = step (list_all is_plain bytes) refl
  where
    step : (t : Bool) → list_all is_plain bytes ≡ t → is_bare (cond t (codes "=" ++ bytes) (codes "~" ++ encode_of standard bytes)) ≡ true
    step true p = plain_bare bytes p
    step false p = bare_base64 bytes e

pub data_back : (bytes : List ℕ) → IsData bytes → data_of (data_word bytes) ≡ Some bytes
unfolding data_of
data_back bytes e = step (list_all is_plain bytes) refl
  where
    step : (t : Bool) → list_all is_plain bytes ≡ t → data_of (cond t (codes "=" ++ bytes) (codes "~" ++ encode_of standard bytes)) ≡ Some bytes
    step true p = rw p refl
    step false p = ap result_ok (decode_of-encode_of standard bytes refl e)

pub take_data : (bytes : List ℕ) → IsData bytes → (rest : List Text) → take data_of (words_in (data_word bytes) ++ rest) ≡ Some (bytes, rest)
take_data bytes e rest = take_back data_of (data_word bytes) bytes rest (bare_data bytes e) (data_back bytes e)

pub shown_data : (bytes : List ℕ) → IsData bytes → is_shown (data_word bytes) ≡ true
shown_data bytes e = bare_shown (data_word bytes) (bare_data bytes e)
