use Rattle.std.proofs.Common.{arith, length, ◌<◌, rules}
use Rattle.fk_region.proofs.Going.{read_one}
use Rattle.fk_region.proofs.chain.read.Goals as goal

pub offset_bounds-blocks-at : goal.offset_bounds-blocks-at
offset_bounds-blocks-at c = let l : c.reading.at < length c.args.blocks.now = c.reading.invariant.inside 0 (omega arith) in search rules

pub bounds-blocks-at : goal.bounds-blocks-at
bounds-blocks-at c = c.reading.invariant.inside 0 (omega arith)

pub reading-preserved : goal.reading-preserved
reading-preserved c = read_one c.args.blocks.now c.args.first (length c.args.into.now) c.reading.into c.reading.at c.reading.done c.min-count.result _ c.copy_from_slice.new.self c.requires.whole c.reading.invariant (omega arith) (search rules) (omega arith) (search rules)
