use Rattle.fk_tree.proofs.Starting.{start_kept}
use Rattle.fk_tree.proofs.tree.Tree.new.Goals as goal

pub invariant_of-result : goal.invariant_of-result
invariant_of-result c = start_kept c.in_ok-root_slots.field-0.entries c.new.result c.in_ok-root_slots.ensures
