use Rattle.std.proofs.Common.{sym, ◌∙◌}
use Rattle.std.specs.FinMap.{nat_cmp-IsAntisymmetric}
use Rattle.std.proofs.lemmas.Cmp.{nat_cmp_total}
use Rattle.fk_tree.proofs.Rising.{same_rising}
use Rattle.fk_watch.proofs.Uniqueness.{same_fired}
use Rattle.fk_watch.proofs.laws.sweep_lists_one_way.Goals as goal

pub returns-clause-fired : goal.returns-clause-fired
returns-clause-fired c = λ tx fired fs gs a b. same_fired fs gs a.rising b.rising (λ n. a.exact n ∙ sym (b.exact n))

pub returns-clause-epoch : goal.returns-clause-epoch
returns-clause-epoch c = λ fired ids others a b. same_rising nat_cmp_total nat_cmp-IsAntisymmetric ids others a.rising b.rising (λ n. a.exact n ∙ sym (b.exact n))
