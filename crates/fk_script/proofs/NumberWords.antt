-- Numbers in words.
use Rattle.std.proofs.Common.{◌≡◌, ℕ, ◌^◌, ◌<◌, length, Bool, true, false, cond, List, [], ◌∷◌, Some, None, refl, arith}
use Rattle.std.specs.Prelude.{◌==◌, nat_le, ◌&&◌, ◌||◌, not}
use Rattle.std.specs.Str.{all_ascii_digits}
use Rattle.std.specs.Str.Parse.{ParsesUnsigned, digits_value}
use Rattle.std.specs.declared.result.Result.{Result}
use Rattle.std.specs.declared.result.Result.TheVariants.{Err}
use Rattle.std.proofs.lemmas.Bool.Decides.{nat_tests}
use Rattle.std.proofs.lemmas.Str.Parse.{parse_digits}
use Rattle.fk_script.specs.Values.{is_decimal, number}
use Rattle.fk_base.proofs.Numerals.{numerals}

-- a decimal number is digits, at least one
pub digits_of_decimal : (word : List ℕ) → is_decimal word ≡ true → (all_ascii_digits word ≡ true) × (0 < length word)
digits_of_decimal [] h = cc h
digits_of_decimal (d ∷ ds) h = (both (all_ascii_digits (d ∷ ds)) (not (d == 48) || (length ds == 0)) h, omega arith)
  where
    both : (s t : Bool) → (s && t) ≡ true → s ≡ true
    both true t e = refl
    both false t e = e

-- a number that no `u64` holds is beyond every limit
pub no_number : (most : ℕ) (word : List ℕ) {E : Type 0} (r : Result ℕ E) (e : E) → most < 2 ^ 64 → is_decimal word ≡ true → ParsesUnsigned 64 10 word r → r ≡ Err e → number most word ≡ None
no_number most word r e small decimal parsed failed =
    let d = digits_of_decimal word decimal in
    let refused = rw failed at (parse_digits numerals 64 word r parsed d.0) in
    step (is_decimal word) (nat_le (digits_value 10 word) most) (λ (t : nat_le (digits_value 10 word) most ≡ true). refused (d.1, grind (arith, nat_tests)))
  where
    step : (s t : Bool) → (t ≡ true → ⊥) → cond (s && t) (Some (digits_value 10 word)) None ≡ None
    step true true h = absurd (h refl)
    step true false h = refl
    step false t h = refl
