-- An expected version reads back from its word.
use Rattle.std.proofs.Common.{◌≡◌, true, List, ◌++◌, pos, negsuc, Some, refl, arith}
use lib.IntN.{ℤ}
use Rattle.std.specs.Fmt.{digits, signed_decimal}
use Rattle.fk_base.specs.Digits.{expected_of}
use Rattle.fk_base.specs.Limits.{IsExpected}
use Rattle.fk_base.proofs.Numerals.{expected_back}
use Rattle.fk_print.specs.Words.{Text}
use Rattle.fk_read.specs.Cut.{words_in}
use Rattle.fk_read.specs.Reads.{take}
use Rattle.fk_read.proofs.WordsBack.{bare_decimal, is_bare, take_back}
use Rattle.fk_read.proofs.Shown.{bare_shown, is_shown}

bare_minus : is_bare (signed_decimal (negsuc 0)) ≡ true
unfolding digits
bare_minus = refl

bare_expected : (v : ℤ) → IsExpected v → is_bare (signed_decimal v) ≡ true
bare_expected (pos v) fits = bare_decimal v (omega arith)
bare_expected (negsuc v) fits = rw fits bare_minus

pub take_expected : (v : ℤ) → IsExpected v → (rest : List Text) → take expected_of (words_in (signed_decimal v) ++ rest) ≡ Some (v, rest)
take_expected v fits rest = take_back expected_of (signed_decimal v) v rest (bare_expected v fits) (expected_back v fits)

pub shown_expected : (v : ℤ) → IsExpected v → is_shown (signed_decimal v) ≡ true
shown_expected v fits = bare_shown (signed_decimal v) (bare_expected v fits)
