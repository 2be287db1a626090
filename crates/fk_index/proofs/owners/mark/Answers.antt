use Rattle.std.proofs.Common.{true, Some}
use Rattle.fk_index.proofs.Marking.{lent_marked}
use Rattle.fk_index.proofs.owners.mark.Goals as goal

pub returns-in-Some : goal.returns-in-Some
returns-in-Some c = lent_marked c.args.owners.now c.args.session c.get_mut.follows.lender c.in-Some.marks.now c.mark_in.new.marks c.args.path.now (Some true) c.in-Some.ensures.value c.get_mut.follows.holds c.mark_in.ensures
