use Rattle.std.proofs.Common.{◌≡◌, ◌++◌, drop}
use Rattle.fk_tree.specs.Locks.{parts_lock_paths}
use Rattle.fk_follow.proofs.locking.push_parts.Given as goal

abbrev pub invariant-pushing : goal.invariant-pushing
invariant-pushing l = l.paths.items ++ parts_lock_paths (drop l.part-index l.parts) ≡ l.initial.paths.items ++ parts_lock_paths l.parts
