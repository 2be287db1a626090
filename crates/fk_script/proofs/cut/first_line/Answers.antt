use Rattle.std.proofs.Common.{sym, ◌∙◌, arith}
use Rattle.std.proofs.lemmas.Bool.Decides.{nat_tests}
use Rattle.fk_script.proofs.LineCuts.{cut_range, cut_nowhere}
use Rattle.fk_script.proofs.cut.first_line.Goals as goal

pub returns-in-Some-clause-exact : goal.returns-in-Some-clause-exact
returns-in-Some-clause-exact c = cut_range c.args.bytes.now c.in-Some.at (sym c.in-Some.is ∙ c.line_feed.ensures.exact)

pub returns-in-None-clause-exact : goal.returns-in-None-clause-exact
returns-in-None-clause-exact c = cut_nowhere c.args.bytes.now (sym c.in-None.is ∙ c.line_feed.ensures.exact) (grind (arith, nat_tests))
