use Rattle.std.proofs.Common.{◌≡◌}
use Rattle.fk_store.proofs.owning.paths_of.Given as goal

abbrev pub invariant-moving : goal.invariant-moving
invariant-moving l = l.paths ≡ l.yielded
