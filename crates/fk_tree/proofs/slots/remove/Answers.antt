use Rattle.std.proofs.Common.{None}
use Rattle.fk_tree.proofs.Looking.{updated_node}
use Rattle.fk_tree.proofs.slots.remove.Goals as goal

pub returns : goal.returns
returns c = record { nodes = updated_node c.args.slots.now c.remove.new.self c.args.path.now None c.remove.ensures.updates.0 }
