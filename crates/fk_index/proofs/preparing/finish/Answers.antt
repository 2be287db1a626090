use Rattle.std.proofs.Common.{subst, sym}
use Rattle.fk_index.proofs.Finishing.{edited_here, IsFinished}
use Rattle.fk_index.proofs.preparing.finish.Goals as goal
use Rattle.fk_base.proofs.Logic.{ok_so}

pub returns-in-Some-clause-ok : goal.returns-in-Some-clause-ok
returns-in-Some-clause-ok c = ok_so c.edit_node.result c.edit_node.ensures.ok (λ u. subst (λ w. IsFinished w c.args.slots.now c.edit_node.new.slots) (sym c.in-Some.is) (edited_here c.in-Some.step c.args.slots.now c.edit_node.new.slots u))
