use Rattle.std.proofs.lemmas.Cmp.{nat_cmp_total}
use Rattle.std.specs.FinMap.{nat_cmp-IsAntisymmetric}
use Rattle.fk_tree.proofs.Order.{name_total, name_exact, path_total, path_exact}
use Rattle.fk_tree.proofs.Rising.{same_rising}
use Rattle.fk_law_tree.proofs.rising_lists.rising_lists_are_their_members.Goals as goal

pub returns-clause-names : goal.returns-clause-names
returns-clause-names c = same_rising name_total name_exact

pub returns-clause-paths : goal.returns-clause-paths
returns-clause-paths c = same_rising path_total path_exact

pub returns-clause-numbers : goal.returns-clause-numbers
returns-clause-numbers c = same_rising nat_cmp_total nat_cmp-IsAntisymmetric
