use Rattle.std.proofs.Common.{◌≡◌, ◌∙◌, sym, ap, true, false, true≢false, arith, length, ℕ, zero, suc, ◌<◌, ◌≤◌}
use Rattle.std.specs.Prelude.{◌==◌}
use Rattle.std.specs.Str.{all_ascii_digits}
use Rattle.fk_words.proofs.Numbers.{few_digits_fit}
use Rattle.fk_words.proofs.words.number_of.Goals as goal

positive : (n : ℕ) → (n == 0) ≡ false → 0 < n
positive zero e = absurd (true≢false e)
positive (suc n) e = omega arith

pub returns-in-Err : goal.returns-in-Err
returns-in-Err c =
    let digits : all_ascii_digits c.args.word.now ≡ true = ap all_ascii_digits (sym c.as_bytes.ensures.value) ∙ (sym c.are_digits.ensures ∙ c.if-not-are_digits.false) in
    let some : 0 < length c.args.word.now = positive _ (sym c.if-is_empty.ensures) in
    let short : length c.args.word.now ≤ 9 = omega (arith, c.if-most-word.false, c.requires) in
    absurd (few_digits_fit c.args.word.now c.parse.result c.in-Err.field-0 digits some short c.parse.ensures.value.0 c.in-Err.is)
