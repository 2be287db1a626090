use Rattle.std.proofs.Common.{ap, ◌∙◌, rules, tests}
use Rattle.std.specs.Prelude.{codes, map}
use Rattle.std.proofs.lemmas.Iterator.Consumers.{YieldsList-end}
use Rattle.std.proofs.lemmas.Iterator.Splits.{YieldsList-from_slice_split}
use Rattle.fk_script.specs.Lines.{is}
use Rattle.fk_script.specs.Phrases.{phrase}
use Rattle.fk_script.proofs.command_words.cut.Goals as goal

pub returns : goal.returns
returns c =
    let t = YieldsList-end (YieldsList-from_slice_split _ (λ word. is word (codes ";")) c.args.words.now (cc) (cc) (cc) (λ x r q k. search (rules, tests))) c.cutting.yielded _ c.cutting.yielded_by _ _ c.in-None.is c.next.ensures.steps in
    c.cutting.invariant ∙ ap (map phrase) t.0
