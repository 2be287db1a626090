use Rattle.std.proofs.Common.{◌≡◌, ◌++◌, drop}
use Rattle.fk_spec.specs.Follower.{paths_of}
use Rattle.fk_follow.specs.Standing.{grants_of}
use Rattle.fk_follow.proofs.follower.Follower.paths.Given as goal

abbrev pub invariant-listing : goal.invariant-listing
invariant-listing l = l.paths ++ paths_of (grants_of (drop l.lock-index l.self.granted.items)) ≡ paths_of (grants_of l.self.granted.items)
