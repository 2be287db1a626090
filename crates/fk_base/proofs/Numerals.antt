-- What a text of digits says.
use Rattle.std.proofs.Common.{◌≡◌, ℕ, ◌<◌, ◌^◌, Bool, true, false, cond, List, [], ◌∷◌, length, Some, None, refl, sym, ap, ◌∙◌, arith, nat_lt, drop}
use Rattle.std.specs.Prelude.{◌&&◌, ◌==◌, ℤ, pos, negsuc, codes, option_map}
use Rattle.std.specs.Fmt.{decimal, digits, signed_decimal}
use Rattle.std.specs.Str.{all_ascii_digits, bytes_eq, IsUtf8, IsAscii}
use Rattle.std.specs.Char.{is_ascii_digit}
use Rattle.std.specs.Str.Parse.{digits_value, without_leading_plus, IsNumeral}
use Rattle.std.proofs.lemmas.Bool.Decides.{nat_tests}
use Rattle.std.proofs.lemmas.Fmt.{digits_decimal, digits_value-decimal, decimal_nonempty}
use Rattle.std.proofs.lemmas.Slice.Eq.{bytes_eq-Decides}
use Rattle.std.proofs.lemmas.Str.{IsUtf8-from_ascii}
use Rattle.std.proofs.lemmas.Str.Ascii.{IsAscii-nil, IsAscii-cons}
use Rattle.std.proofs.lemmas.Str.Parse.{IsNumeralModel, numerals_by_value, tells_all_ascii_digits}
use Rattle.fk_base.specs.Digits.{digits_below, expected_of, number_below}
use Rattle.fk_base.specs.Limits.{IsExpected}

pub numerals : IsNumeralModel (λ ds. all_ascii_digits ds ≡ true) (digits_value 10)
numerals = numerals_by_value (λ ds. all_ascii_digits ds ≡ true) tells_all_ascii_digits

digit_split : (c : ℕ) (rest : Bool) → (is_ascii_digit c && rest) ≡ true → (c < 128) × (rest ≡ true)
digit_split c rest h = (grind (arith, nat_tests), grind (arith, nat_tests))

IsAscii-digits : (ds : List ℕ) → all_ascii_digits ds ≡ true → IsAscii ds
IsAscii-digits [] h = IsAscii-nil
IsAscii-digits (c ∷ cs) h =
    let split = digit_split c (all_ascii_digits cs) h in
    IsAscii-cons c cs split.0 (IsAscii-digits cs split.1)

-- digits, a `+` before them or none, are ASCII
IsAscii-plus : (word : List ℕ) → all_ascii_digits (without_leading_plus word) ≡ true → IsAscii word
IsAscii-plus [] h = IsAscii-nil
IsAscii-plus (c ∷ cs) h = step (c == 43) refl h
  where
    step : (b : Bool) → (c == 43) ≡ b → all_ascii_digits (drop (cond b 1 0) (c ∷ cs)) ≡ true → IsAscii (c ∷ cs)
    step true e h = IsAscii-cons c cs (grind (arith, nat_tests)) (IsAscii-digits cs h)
    step false e h = IsAscii-digits (c ∷ cs) h

-- nothing where the digits fail
none_by : (limit : ℕ) (digits : List ℕ) → ¬ ((all_ascii_digits digits ≡ true) × (0 < length digits) × (digits_value 10 digits < limit)) → digits_below limit digits ≡ None
none_by limit digits fails = step (all_ascii_digits digits) refl
  where
    step : (b : Bool) → all_ascii_digits digits ≡ b → cond (b && nat_lt 0 (length digits) && nat_lt (digits_value 10 digits) limit) (Some (digits_value 10 digits)) None ≡ None
    step true e = grind (arith, nat_tests)
    step false e = refl

-- what is no text says no number
pub no_text : (limit : ℕ) (word : List ℕ) → ¬ IsUtf8 word → number_below limit word ≡ None
unfolding number_below
no_text limit word no_utf8 =
    none_by limit (without_leading_plus word) (λ f. no_utf8 (IsUtf8-from_ascii word (IsAscii-plus word f.0)))

-- nor an expected version
pub no_version : (word : List ℕ) → ¬ IsUtf8 word → expected_of word ≡ None
unfolding expected_of
no_version word no_utf8 = step (bytes_eq word (codes "-1")) (λ e. (bytes_eq-Decides word (codes "-1")).0 e)
  where
    ascii : IsAscii (codes "-1")
    ascii = IsAscii-cons 45 (49 ∷ []) (omega arith) (IsAscii-cons 49 [] (omega arith) IsAscii-nil)

    step : (b : Bool) → (b ≡ true → word ≡ codes "-1") → cond b (Some (negsuc 0)) (option_map pos (number_below (2 ^ 31) word)) ≡ None
    step true e = absurd (no_utf8 (IsUtf8-from_ascii word (rw (e refl) ascii)))
    step false e = ap (option_map pos) (no_text (2 ^ 31) word no_utf8)

pub no_number : (limit : ℕ) (word : List ℕ) → limit < 2 ^ 64 → ¬ (IsNumeral 10 (without_leading_plus word) × digits_value 10 (without_leading_plus word) < 2 ^ 64) → number_below limit word ≡ None
unfolding number_below
no_number limit word small fails =
    none_by limit (without_leading_plus word) (λ f. fails ((f.1, numerals.to (without_leading_plus word) f.0), omega (arith, f.2)))

pub number_is : (limit : ℕ) (word : List ℕ) (n : ℕ) → (IsNumeral 10 (without_leading_plus word) × digits_value 10 (without_leading_plus word) < 2 ^ 64) × n ≡ digits_value 10 (without_leading_plus word)
    → number_below limit word ≡ cond (nat_lt n limit) (Some n) None
unfolding number_below
number_is limit word n is =
    let digits : all_ascii_digits (without_leading_plus word) ≡ true = numerals.from (without_leading_plus word) is.0.0.1 in
    let long : nat_lt 0 (length (without_leading_plus word)) ≡ true = grind (arith, nat_tests, is.0.0.0) in
    rw (digits, long, ← is.1) refl

pub number_in : (limit : ℕ) (word : List ℕ) (n : ℕ) → (IsNumeral 10 (without_leading_plus word) × digits_value 10 (without_leading_plus word) < 2 ^ 64) × n ≡ digits_value 10 (without_leading_plus word) → n < limit
    → Some n ≡ number_below limit word
number_in limit word n is low =
    let test : nat_lt n limit ≡ true = grind (arith, nat_tests) in
    sym (number_is limit word n is ∙ rw test refl)

pub number_out : (limit : ℕ) (word : List ℕ) (n : ℕ) → (IsNumeral 10 (without_leading_plus word) × digits_value 10 (without_leading_plus word) < 2 ^ 64) × n ≡ digits_value 10 (without_leading_plus word) → ¬ (n < limit)
    → None ≡ number_below limit word
number_out limit word n is high =
    let test : nat_lt n limit ≡ false = grind (arith, nat_tests) in
    sym (number_is limit word n is ∙ rw test refl)

-- ---- what is written reads back

digit_no_plus : (c : ℕ) (rest : Bool) → (is_ascii_digit c && rest) ≡ true → (c == 43) ≡ false
digit_no_plus c rest h = grind (arith, nat_tests)

digits_no_plus : (ds : List ℕ) → all_ascii_digits ds ≡ true → without_leading_plus ds ≡ ds
digits_no_plus [] h = refl
digits_no_plus (c ∷ ds) h = rw (digit_no_plus c (all_ascii_digits ds) h) refl

pub decimal_digits : (n : ℕ) → n < 2 ^ 64 → all_ascii_digits (decimal n) ≡ true
decimal_digits n l = digits_decimal numerals n l

pub below_back : (limit n : ℕ) → n < limit → n < 2 ^ 64 → number_below limit (decimal n) ≡ Some n
unfolding number_below
below_back limit n low l =
    let long : nat_lt 0 (length (decimal n)) ≡ true = grind (arith, nat_tests, decimal_nonempty n l) in
    let test : nat_lt n limit ≡ true = grind (arith, nat_tests) in
    rw (digits_no_plus (decimal n) (decimal_digits n l), decimal_digits n l, long, digits_value-decimal numerals n l, test) refl

minus_back : expected_of (signed_decimal (negsuc 0)) ≡ Some (negsuc 0)
unfolding expected_of digits
minus_back = refl

digit_no_minus : (c : ℕ) (rest : Bool) → (is_ascii_digit c && rest) ≡ true → (c == 45) ≡ false
digit_no_minus c rest h = grind (arith, nat_tests)

digits_no_minus : (ds : List ℕ) → all_ascii_digits ds ≡ true → bytes_eq ds (codes "-1") ≡ false
digits_no_minus [] h = refl
digits_no_minus (c ∷ ds) h = rw (digit_no_minus c (all_ascii_digits ds) h) refl

pub expected_back : (v : ℤ) → IsExpected v → expected_of (signed_decimal v) ≡ Some v
unfolding expected_of
expected_back (pos v) fits = rw (digits_no_minus (decimal v) (decimal_digits v (omega arith)), below_back (2 ^ 31) v fits (omega arith)) refl
expected_back (negsuc v) fits = rw fits minus_back
