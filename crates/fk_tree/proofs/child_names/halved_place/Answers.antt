use Rattle.std.proofs.Common.{◌+◌, ◌-◌, ◌/◌, arith}
use Rattle.fk_tree.proofs.Seeking.{place_high, place_in_list, place_low}
use Rattle.fk_tree.proofs.child_names.halved_place.Goals as goal

pub halving-init : goal.halving-init
halving-init c = (grind arith, place_in_list c.args.name.now c.args.names.now, grind arith)

pub halving-preserved-then-is_gt : goal.halving-preserved-then-is_gt
halving-preserved-then-is_gt c = grind (arith, place_low c.args.name.now c.args.names.now (c.halving.low + (c.halving.high - c.halving.low) / 2) c.index-names-middle.result)

pub halving-preserved : goal.halving-preserved
halving-preserved c = grind (arith, place_high c.args.name.now c.args.names.now (c.halving.low + (c.halving.high - c.halving.low) / 2) c.index-names-middle.result)
