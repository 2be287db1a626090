use Rattle.std.proofs.Common.{Some}
use Rattle.fk_tree.proofs.Looking.{updated_node}
use Rattle.fk_tree.proofs.rows.put_node.Goals as goal

pub returns-clause-ok : goal.returns-clause-ok
returns-clause-ok c p = updated_node c.args.slots.now c.insert.new.self c.args.path (Some c.args.node) c.in_ok-insert.ensures.updates.0 p
