use Rattle.fk_region.specs.Chains.{AreLinked}
use Rattle.fk_region.proofs.chain.link.Given as goal

abbrev pub invariant-linking : goal.invariant-linking
invariant-linking l = AreLinked l.initial.blocks l.from l.free l.blocks l.at l.first
