use Rattle.std.proofs.Common.{◌≡◌}
use Rattle.fk_region.specs.Blocks.{next_in, steps}
use Rattle.fk_region.proofs.chain.walk.Given as goal

abbrev pub invariant-walking : goal.invariant-walking
invariant-walking l = l.at ≡ steps (next_in l.blocks) l._step l.from
