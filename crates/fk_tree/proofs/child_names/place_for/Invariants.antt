use Rattle.std.proofs.Common.{◌≡◌, drop}
use Rattle.fk_tree.specs.Sorted.{place_from}
use Rattle.fk_tree.proofs.child_names.place_for.Given as goal

abbrev pub invariant-passing : goal.invariant-passing
invariant-passing l = place_from 0 l.name l.names ≡ place_from l.place l.name (drop l.place l.names)
