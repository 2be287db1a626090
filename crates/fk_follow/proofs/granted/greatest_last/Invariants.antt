use Rattle.std.proofs.Common.{◌≡◌, drop}
use Rattle.std.specs.Prelude.{max}
use Rattle.fk_spec.specs.Follower.{greatest_last}
use Rattle.fk_follow.specs.Standing.{grants_of}
use Rattle.fk_follow.proofs.granted.greatest_last.Given as goal

abbrev pub invariant-comparing : goal.invariant-comparing
invariant-comparing l = greatest_last (grants_of l.granted) ≡ max l.greatest (greatest_last (grants_of (drop l.lock-index l.granted)))
