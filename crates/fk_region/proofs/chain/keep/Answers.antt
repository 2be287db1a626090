use Rattle.std.proofs.Common.{arith}
use Rattle.fk_region.proofs.Setting.{are_kept}
use Rattle.fk_region.proofs.chain.keep.Goals as goal

pub returns-clause-after : goal.returns-clause-after
returns-clause-after c = are_kept c.args.blocks.now c.write-behind.new.blocks c.args.first c.args.bytes.now c.write-behind.ensures.after (c.requires.inside 0 (omega arith))
