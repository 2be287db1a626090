use Rattle.std.proofs.Common.{Some}
use Rattle.fk_tree.proofs.Looking.{updated_node, kept_row, looked_some}
use Rattle.fk_tree.proofs.slots.put.Goals as goal

pub returns-in-Some-clause-nodes : goal.returns-in-Some-clause-nodes
returns-in-Some-clause-nodes c = updated_node c.args.slots.now (c.get_mut.follows.lender c.args.node) c.args.path.now (Some c.args.node) ((c.get_mut.follows.holds c.args.node).3 (looked_some c.args.path.now c.args.slots.now.entries c.requires)).0

pub returns-in-Some-clause-rows : goal.returns-in-Some-clause-rows
returns-in-Some-clause-rows c = kept_row c.args.slots.now (c.get_mut.follows.lender c.args.node) c.args.path.now c.args.node c.requires ((c.get_mut.follows.holds c.args.node).3 (looked_some c.args.path.now c.args.slots.now.entries c.requires)).0
