use Rattle.std.proofs.Common.{◌≡◌, true, sym, ◌∙◌, arith}
use Rattle.fk_script.specs.Values.{is_decimal}
use Rattle.fk_script.proofs.NumberWords.{no_number}
use Rattle.fk_script.proofs.values.number.Goals as goal

pub returns-in_default-2-clause-exact : goal.returns-in_default-2-clause-exact
returns-in_default-2-clause-exact c =
    let decimal : is_decimal c.args.word.now ≡ true = sym c.is_decimal.ensures ∙ c.if-not-is_decimal.false in
    sym (no_number c.args.most c.args.word.now c.parse.result c.in_default.field-0 (omega arith) decimal (rw c.text.ensures at c.parse.ensures.value.0) c.in_default.is)
