use Rattle.std.proofs.Common.{◌≡◌, ◌≤◌, ◌∙◌, ap}
use Rattle.std.specs.Fmt.{decimal}
use Rattle.fk_script.specs.Values.{number}
use Rattle.fk_script.proofs.WordValues.{number_of_decimal, decimal_of_number}
use Rattle.fk_script.proofs.word_laws.numbers_are_decimal.Goals as goal

pub returns : goal.returns
returns c = λ most n word l. (decimal_of_number most n word l, λ (h : (n ≤ most) × (word ≡ decimal n)). ap (number most) h.1 ∙ number_of_decimal most n l h.0)
