-- Numbers of few digits.
use Rattle.std.proofs.Common.{◌≡◌, ℕ, ◌^◌, ◌<◌, ◌≤◌, length, true, List, arith}
use Rattle.std.specs.Str.{all_ascii_digits}
use Rattle.std.specs.Str.Parse.{ParsesUnsigned, digits_value}
use Rattle.std.specs.declared.result.Result.{Result}
use Rattle.std.specs.declared.result.Result.TheVariants.{Err}
use Rattle.std.proofs.lemmas.Str.Parse.{parse_digits, digits_value_short}
use Rattle.fk_base.proofs.Numerals.{numerals}

-- each number of nine digits fits
pub few_digits_fit : (word : List ℕ) {E : Type 0} (r : Result ℕ E) (e : E) → all_ascii_digits word ≡ true → 0 < length word → length word ≤ 9
    → ParsesUnsigned 64 10 word r → r ≡ Err e → ⊥
few_digits_fit word r e digits some short parsed failed =
    let refused = rw failed at (parse_digits numerals 64 word r parsed digits) in
    let small : digits_value 10 word < 10 ^ 9 = digits_value_short numerals word 9 digits short in
    refused (some, omega (arith, small))
