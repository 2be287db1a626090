-- The values of words, from the values to the words and back.
use Rattle.std.proofs.Common.{◌≡◌, ◌↔◌, ℕ, zero, suc, ◌^◌, ◌<◌, ◌≤◌, length, get_or, Bool, true, false, cond, List, [], ◌∷◌, Some, None, refl, sym, ◌∙◌, ap, arith}
use Rattle.std.specs.Prelude.{◌==◌, nat_le, ◌&&◌, ◌||◌, not}
use Rattle.std.specs.Fmt.{decimal}
use Rattle.std.specs.Result.{result_ok}
use Rattle.std.specs.Str.{all_ascii_digits}
use Rattle.std.specs.Str.Parse.{digits_value}
use Rattle.std.specs.declared.result.Result.{Result}
use Rattle.std.specs.declared.result.Result.TheVariants.{Ok, Err}
use Rattle.std.proofs.lemmas.Bool.Decides.{nat_tests}
use Rattle.std.proofs.lemmas.Fmt.{decimal-digits_value, decimal_digit, decimal_nonempty, digits_decimal, digits_value-decimal, first_decimal}
use Rattle.base64.specs.Engines.{standard}
use Rattle.base64.specs.GeneralPurpose.{IsBytes, decode_of, encode_of}
use Rattle.base64.proofs.EngineFacts.{decode_of_iff}
use Rattle.fk_script.specs.Values.{decoded, is_decimal, number}
use Rattle.fk_script.proofs.NumberWords.{digits_of_decimal}
use Rattle.fk_base.proofs.Numerals.{numerals}

-- a zero in front stands alone
lone_zero : (word : List ℕ) → is_decimal word ≡ true → get_or word 0 0 ≡ 48 → length word ≡ 1
lone_zero [] h e = cc h
lone_zero (d ∷ ds) h e = grind (arith, nat_tests)

decimal_from : (word : List ℕ) → all_ascii_digits word ≡ true → 0 < length word → (get_or word 0 0 ≡ 48 → length word ≡ 1) → is_decimal word ≡ true
decimal_from [] a l z = absurd (omega arith)
decimal_from (d ∷ ds) a l z = step (all_ascii_digits (d ∷ ds)) (d == 48) a (λ (e : (d == 48) ≡ true). grind (arith, nat_tests))
  where
    step : (s t : Bool) → s ≡ true → (t ≡ true → (length ds == 0) ≡ true) → (s && (not t || (length ds == 0))) ≡ true
    step true true e h = h refl
    step true false e h = refl
    step false t e h = e

zero_alone : (n : ℕ) → n < 2 ^ 64 → get_or (decimal n) 0 0 ≡ 48 → length (decimal n) ≡ 1
zero_alone zero l e = ap length (decimal_digit 0 (omega arith))
zero_alone (suc n) l e = absurd (omega (arith, first_decimal (suc n) (omega arith) l))

pub number_of_decimal : (most n : ℕ) → most < 2 ^ 64 → n ≤ most → number most (decimal n) ≡ Some n
number_of_decimal most n l h =
    let small : n < 2 ^ 64 = omega arith in
    step (is_decimal (decimal n)) (digits_value 10 (decimal n))
    (decimal_from (decimal n) (digits_decimal numerals n small) (decimal_nonempty n small) (zero_alone n small)) (digits_value-decimal numerals n small)
  where
    step : (s : Bool) (v : ℕ) → s ≡ true → v ≡ n → cond (s && nat_le v most) (Some v) None ≡ Some n
    step true v e f = grind (arith, nat_tests)
    step false v e f = cc e

pub decimal_of_number : (most n : ℕ) (word : List ℕ) → most < 2 ^ 64 → number most word ≡ Some n → (n ≤ most) × (word ≡ decimal n)
decimal_of_number most n word l h = step (is_decimal word) (nat_le (digits_value 10 word) most) refl refl h
  where
    step : (s t : Bool) → is_decimal word ≡ s → nat_le (digits_value 10 word) most ≡ t → cond (s && t) (Some (digits_value 10 word)) None ≡ Some n → (n ≤ most) × (word ≡ decimal n)
    step true true e f g =
        let v : digits_value 10 word ≡ n = cc in
        let d = digits_of_decimal word e in
        let below : digits_value 10 word ≤ most = grind (arith, nat_tests) in
        (omega arith, sym (decimal-digits_value numerals word d.0 d.1 (lone_zero word e) (omega arith)) ∙ ap decimal v)
    step true false e f g = cc g
    step false t e f g = cc g

some_ok : {E : Type 0} (r : Result (List ℕ) E) (bytes : List ℕ) → result_ok r ≡ Some bytes → r ≡ Ok bytes
some_ok (Ok x) bytes h = cc h
some_ok (Err e) bytes h = cc h

pub encoded : (word bytes : List ℕ) → IsBytes word → IsBytes bytes → (decoded word ≡ Some bytes) ↔ (word ≡ encode_of standard bytes)
encoded word bytes w b =
    let both = decode_of_iff standard word bytes (refl, refl) w b in
    (λ (h : decoded word ≡ Some bytes). both.0 (some_ok (decode_of standard word) bytes h), λ (h : word ≡ encode_of standard bytes). ap (λ (r : _). result_ok r) (both.1 h))
