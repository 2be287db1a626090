use Rattle.fk_base.proofs.Joins.{take_rest, give_more}
use Rattle.fk_base.proofs.in_memory.MemSourceSource.read.Goals as goal

pub returns-clause-gives : goal.returns-clause-gives
returns-clause-gives c =
    let given = rw (c.as_slice.ensures, take_rest) at c.copy_from_slice.ensures.after in
    let count = rw (c.as_slice.ensures, take_rest) at c.min-count.ensures in
    let some = rw (c.as_slice.ensures, take_rest) at c.if-is_empty.ensures in
    rw (← c.self.view_is, given) (give_more c.self.inside.bytes c.args.into.now c.self.inside.given c.min-count.result c.requires count some)
