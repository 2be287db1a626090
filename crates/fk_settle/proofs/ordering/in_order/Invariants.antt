use Rattle.std.proofs.Common.{◌≡◌, ◌≤◌, drop, length}
use Rattle.fk_tree.specs.Sorted.{in_path_order}
use Rattle.fk_settle.proofs.ordering.in_order.Given as goal

abbrev pub invariant-sorting : goal.invariant-sorting
invariant-sorting l = record {
  sorted : l.sorted.items ≡ in_path_order (drop l.left l.paths);
  within : l.left ≤ length l.paths;
}

abbrev pub decreases-sorting : goal.decreases-sorting
decreases-sorting l = l.left
