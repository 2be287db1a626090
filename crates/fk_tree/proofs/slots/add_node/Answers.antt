use Rattle.std.proofs.Common.{Some, refl, ◌∙◌}
use Rattle.fk_tree.proofs.Looking.{updated_node}
use Rattle.fk_tree.proofs.slots.add_node.Goals as goal

pub returns-clause-ok : goal.returns-clause-ok
returns-clause-ok c p = updated_node c.args.slots.now c.insert.new.self c.in_ok-copy.field-0 (Some (Some c.args.node)) c.in_ok-insert.ensures.updates.0 p ∙ rw c.in_ok-copy.ensures refl
