use Rattle.std.proofs.Common.{true}
use Rattle.fk_index.proofs.Finding.{written}
use Rattle.fk_index.proofs.owners.mark_in.Goals as goal

pub returns-in-Some : goal.returns-in-Some
returns-in-Some c = written c.args.marks.now c.args.path.now c.get_mut.follows.lender c.in-Some.mark.now true c.in-Some.ensures.value c.get_mut.follows.holds
