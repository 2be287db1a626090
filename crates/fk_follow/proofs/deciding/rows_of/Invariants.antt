use Rattle.std.proofs.Common.{◌≡◌, ◌≤◌, drop, length}
use Rattle.fk_tree.specs.Shown.{rows_view}
use Rattle.fk_spec.specs.Follower.{view_of}
use Rattle.fk_follow.specs.Standing.{grants_of}
use Rattle.fk_follow.proofs.deciding.rows_of.Given as goal

abbrev pub invariant-showing : goal.invariant-showing
invariant-showing l = record {
  shown : rows_view l.rows ≡ view_of (grants_of (drop l.left l.granted));
  within : l.left ≤ length l.granted;
}

abbrev pub decreases-showing : goal.decreases-showing
decreases-showing l = l.left
