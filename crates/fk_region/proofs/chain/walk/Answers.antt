use Rattle.std.proofs.Common.{sym, ap, ◌∙◌}
use Rattle.fk_region.specs.Blocks.{next_in}
use Rattle.fk_region.proofs.Apart.{steps_more}
use Rattle.fk_region.proofs.chain.walk.Goals as goal

pub walking-preserved : goal.walking-preserved
walking-preserved c = ap (next_in c.args.blocks.now) c.walking.invariant ∙ sym (steps_more (next_in c.args.blocks.now) c.walking._step 1 c.args.from)
