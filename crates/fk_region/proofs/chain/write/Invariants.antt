use Rattle.std.proofs.Common.{length}
use Rattle.fk_region.proofs.Going.{IsWriting}
use Rattle.fk_region.proofs.chain.write.Given as goal

abbrev pub invariant-writing : goal.invariant-writing
invariant-writing l = IsWriting l.initial.blocks l.first l.bytes l.blocks l.at l.rest

abbrev pub decreases-writing : goal.decreases-writing
decreases-writing l = length l.rest
