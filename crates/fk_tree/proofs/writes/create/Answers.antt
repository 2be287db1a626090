use Rattle.fk_tree.proofs.Creating.{undone}
use Rattle.fk_tree.proofs.writes.create.Goals as goal

pub returns-in-Err-clause-err : goal.returns-in-Err-clause-err
returns-in-Err-clause-err c = undone c.args.path.now c.in_ok-node.node c.args.slots.now.entries c.add_node.new.slots.entries c.name_in_parent.new.slots.entries c.remove.new.slots.entries c.requires.free c.in_ok-add_node.ensures.ok c.in-Err.ensures.err c.remove.ensures.nodes
