use Rattle.std.proofs.Common.{◌≡◌, drop}
use Rattle.fk_spec.specs.Follower.{node_in}
use Rattle.fk_follow.specs.Standing.{grants_of}
use Rattle.fk_follow.proofs.granted.node_in.Given as goal

abbrev pub invariant-seeking : goal.invariant-seeking
invariant-seeking l = node_in (grants_of l.granted) l.path ≡ node_in (grants_of (drop l.lock-index l.granted)) l.path
