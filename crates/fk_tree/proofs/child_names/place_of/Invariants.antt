use Rattle.std.proofs.Common.{◌≡◌, drop}
use Rattle.fk_tree.specs.Sorted.{found_from}
use Rattle.fk_tree.proofs.child_names.place_of.Given as goal

abbrev pub invariant-seeking : goal.invariant-seeking
invariant-seeking l = found_from 0 l.name l.names ≡ found_from l.place l.name (drop l.place l.names)
