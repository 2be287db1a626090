use Rattle.std.proofs.Common.{eqb, ◌∙◌, ap}
use Rattle.fk_index.proofs.Putting.{nothing_put, put_owned}
use Rattle.fk_index.proofs.installing.put.Goals as goal

pub returns-in_default-clause-records : goal.returns-in_default-clause-records
returns-in_default-clause-records c = nothing_put c.args.slots.now c.args.path.now c.args.node (rw c.in_default.is at c.record_at.ensures)

pub returns-clause-owned : goal.returns-clause-owned
returns-clause-owned c =
    put_owned c.args.slots.now c.put_node.new.slots c.args.owners.now c.give.new.owners c.args.path.now c.args.node c.in-Some.kept.now c.requires.owned c.in-Some.ensures c.put_node.ensures
    (λ s l. c.give.ensures.here s l ∙ ap (λ n. eqb n s) c.owner_of-to.ensures) c.give.ensures.marks
