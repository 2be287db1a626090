use Rattle.std.proofs.Common.{◌≡◌, length}
use Rattle.fk_tree.specs.Sorted.{drop_name}
use Rattle.fk_tree.proofs.child_names.drop_name.Given as goal

abbrev pub invariant-dropping : goal.invariant-dropping
invariant-dropping l = drop_name l.name l.names ≡ drop_name l.name l.initial.names

abbrev pub decreases-dropping : goal.decreases-dropping
decreases-dropping l = length l.names
