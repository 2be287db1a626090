-- Printed numbers read back.
use Rattle.std.proofs.Common.{◌≡◌, ℕ, pos, negsuc, ◌<◌, ◌≤◌, ◌^◌, Bool, true, false, cond, List, [], ◌∷◌, Some, length, get_or, refl, ◌∙◌, ap, arith, codes, inl, inr}
use Rattle.std.specs.Prelude.{◌==◌, ◌&&◌, ◌||◌, not}
use Rattle.std.specs.Fmt.{decimal}
use Rattle.std.specs.List.{list_all}
use Rattle.std.specs.Str.{all_ascii_digits}
use Rattle.std.specs.Char.{is_ascii_digit}
use Rattle.std.specs.Str.Parse.{digits_value}
use Rattle.std.specs.Option.{option_map}
use Rattle.std.proofs.lemmas.Bool.{and_parts, and_from, cases_lt, le-leb}
use Rattle.std.proofs.lemmas.Bool.Decides.{nat_tests}
use Rattle.std.proofs.lemmas.Fmt.{digits_decimal, digits_value-decimal, decimal_digit, decimal_nonempty, first_decimal}
use Rattle.fk_print.specs.Words.{is_plain}
use Rattle.fk_script.specs.Lines.{Word, is, is_empty}
use Rattle.fk_script.specs.Values.{is_decimal, number, version, most_version}
use Rattle.fk_script.proofs.CleanWords.{IsWord, plain_word}
use Rattle.fk_base.proofs.Numerals.{numerals}

digit_plain : (b : ℕ) → is_ascii_digit b ≡ true → is_plain b ≡ true
digit_plain b h = grind (arith, nat_tests)

digits_plain : (ds : List ℕ) → all_ascii_digits ds ≡ true → list_all is_plain ds ≡ true
digits_plain [] h = refl
digits_plain (d ∷ ds) h =
    let both = and_parts (is_ascii_digit d) (all_ascii_digits ds) h in
    and_from (is_plain d) (list_all is_plain ds) (digit_plain d both.0) (digits_plain ds both.1)

pub number_plain : (n : ℕ) → n < 2 ^ 64 → list_all is_plain (decimal n) ≡ true
number_plain n h = digits_plain (decimal n) (digits_decimal numerals n h)

full_test : (w : List ℕ) → 0 < length w → is_empty w ≡ false
full_test w h = grind (arith, nat_tests)

pub number_word : (n : ℕ) → n < 2 ^ 64 → IsWord (decimal n)
number_word n h = plain_word (decimal n) (full_test (decimal n) (decimal_nonempty n h)) (number_plain n h)

one_test : (d : ℕ) (ds : List ℕ) → (d ≡ 48 → length (d ∷ ds) ≡ 1) → (not (d == 48) || (length ds == 0)) ≡ true
one_test d ds one = grind (arith, nat_tests)

decimal_test : (ds : List ℕ) → all_ascii_digits ds ≡ true → 0 < length ds → (get_or ds 0 0 ≡ 48 → length ds ≡ 1) → is_decimal ds ≡ true
decimal_test [] h full one = absurd (omega arith)
decimal_test (d ∷ ds) h full one = and_from (all_ascii_digits (d ∷ ds)) (not (d == 48) || (length ds == 0)) h (one_test d ds one)

leading : (n : ℕ) → n < 2 ^ 64 → get_or (decimal n) 0 0 ≡ 48 → length (decimal n) ≡ 1
leading n h e = elim (cases_lt n 10) [
  | inl small ↦ ap length (decimal_digit n small)
  | inr large ↦ absurd (omega (arith, first_decimal n (omega arith) h))
]

decimal_is : (n : ℕ) → n < 2 ^ 64 → is_decimal (decimal n) ≡ true
decimal_is n h = decimal_test (decimal n) (digits_decimal numerals n h) (decimal_nonempty n h) (leading n h)

number_at : (most n : ℕ) (w : Word) → is_decimal w ≡ true → digits_value 10 w ≡ n → n ≤ most → number most w ≡ Some n
number_at most n w d v l = rw (d, v, le-leb n most l) refl

-- a number of at most 64 bits
pub number_back : (most n : ℕ) → n < 2 ^ 64 → n ≤ most → number most (decimal n) ≡ Some n
number_back most n h l = number_at most n (decimal n) (decimal_is n h) (digits_value-decimal numerals n h) l

no_sign : (ds : List ℕ) → all_ascii_digits ds ≡ true → is ds (codes "-1") ≡ false
no_sign [] h = refl
no_sign (d ∷ ds) h = sign_test d (is ds (codes "1")) (and_parts (is_ascii_digit d) (all_ascii_digits ds) h).0
  where
    sign_test : (d : ℕ) (r : Bool) → is_ascii_digit d ≡ true → ((d == 45) && r) ≡ false
    sign_test d r h = grind (arith, nat_tests)

digits_apart : (ds : List ℕ) → all_ascii_digits ds ≡ true → is ds (codes ";") ≡ false
digits_apart [] h = refl
digits_apart (d ∷ ds) h = apart_test d (is ds []) (and_parts (is_ascii_digit d) (all_ascii_digits ds) h).0
  where
    apart_test : (d : ℕ) (r : Bool) → is_ascii_digit d ≡ true → ((d == 59) && r) ≡ false
    apart_test d r h = grind (arith, nat_tests)

pub number_apart : (n : ℕ) → n < 2 ^ 64 → is (decimal n) (codes ";") ≡ false
number_apart n h = digits_apart (decimal n) (digits_decimal numerals n h)

pub version_back : (n : ℕ) → n ≤ most_version → version (decimal n) ≡ Some (pos n)
version_back n l =
    let small : n < 2 ^ 64 = omega arith in
    ap (λ b. cond b (Some (negsuc 0)) (option_map pos (number most_version (decimal n)))) (no_sign (decimal n) (digits_decimal numerals n small))
    ∙ ap (option_map pos) (number_back most_version n small l)
