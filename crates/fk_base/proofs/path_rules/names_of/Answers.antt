use Rattle.std.proofs.Common.{◌∙◌, lit<}
use Rattle.std.proofs.lemmas.Iterator.Consumers.{YieldsList-end}
use Rattle.std.proofs.lemmas.Iterator.Splits.{YieldsList-from_str_split}
use Rattle.fk_base.proofs.path_rules.names_of.Goals as goal

pub returns : goal.returns
returns c =
    let start = c.into_iter-piece-iterator.ensures.into_iter_gives in
    let cut = YieldsList-end (YieldsList-from_str_split 47 c.args.text.now (lit< tt) (rw start c.split-piece-items.ensures.text) (rw start c.split-piece-items.ensures.has_more) (rw start c.split-piece-items.ensures.pattern)) c.cutting.yielded _ c.cutting.yielded_by _ _ c.in-None.is c.next.ensures.steps in
    c.cutting.invariant ∙ cut.0
