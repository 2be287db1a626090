use Rattle.std.proofs.Common.{◌≡◌, length}
use Rattle.fk_base.specs.Path.{has_barred}
use Rattle.fk_base.proofs.path_rules.has_barred.Given as goal

abbrev pub invariant-looking : goal.invariant-looking
invariant-looking l = has_barred l.left ≡ has_barred l.bytes

abbrev pub decreases-looking : goal.decreases-looking
decreases-looking l = length l.left
