use Rattle.std.proofs.Common.{◌≡◌, drop}
use Rattle.fk_follow.specs.Meaning.{own_moment}
use Rattle.fk_follow.specs.Standing.{owns_of}
use Rattle.fk_follow.proofs.granted.own_moment.Given as goal

abbrev pub invariant-passing : goal.invariant-passing
invariant-passing l = own_moment l.path (owns_of l.granted) 0 ≡ own_moment l.path (owns_of (drop l.lock-index l.granted)) l.moment
