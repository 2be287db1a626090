use Rattle.std.proofs.Common.{◌≡◌, ◌++◌, drop}
use Rattle.fk_tree.specs.Locks.{with_parents}
use Rattle.fk_follow.proofs.locking.push_with_parents.Given as goal

abbrev pub invariant-pushing : goal.invariant-pushing
invariant-pushing l = l.paths.items ++ with_parents (drop l.path-index l.owned) ≡ l.initial.paths.items ++ with_parents l.owned
