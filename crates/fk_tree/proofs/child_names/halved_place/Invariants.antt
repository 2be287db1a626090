use Rattle.std.proofs.Common.{◌-◌, ◌≤◌, length}
use Rattle.fk_tree.specs.Sorted.{place_from}
use Rattle.fk_tree.proofs.child_names.halved_place.Given as goal

abbrev pub invariant-halving : goal.invariant-halving
invariant-halving l = (l.low ≤ place_from 0 l.name l.names) × (place_from 0 l.name l.names ≤ l.high) × (l.high ≤ length l.names)

abbrev pub decreases-halving : goal.decreases-halving
decreases-halving l = l.high - l.low
