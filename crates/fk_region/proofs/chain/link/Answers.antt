use Rattle.std.proofs.Common.{arith}
use Rattle.fk_region.proofs.Reserving.{one_linked}
use Rattle.fk_region.proofs.chain.link.Goals as goal

pub linking-preserved : goal.linking-preserved
linking-preserved c = one_linked c.args.blocks.now c.args.from c.args.free c.linking.blocks c.linking.at c.linking.first c.linking.invariant (omega arith) (omega arith)
