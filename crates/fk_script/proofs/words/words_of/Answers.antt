use Rattle.std.proofs.Common.{ap, ◌∙◌, lit<}
use Rattle.std.specs.Prelude.{filter, not}
use Rattle.std.proofs.lemmas.Iterator.Consumers.{YieldsList-end}
use Rattle.std.proofs.lemmas.Iterator.Splits.{YieldsList-from_str_split}
use Rattle.fk_script.specs.Lines.{is_empty}
use Rattle.fk_script.proofs.words.words_of.Goals as goal

pub returns : goal.returns
returns c =
    let t = YieldsList-end (YieldsList-from_str_split 32 c.args.line.now (lit< tt) (cc) (cc) (cc)) c.cutting.yielded _ c.cutting.yielded_by _ _ c.in-None.is c.next.ensures.steps in
    c.cutting.invariant ∙ ap (filter (λ word. not (is_empty word))) t.0
