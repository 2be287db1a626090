use Rattle.std.proofs.Common.{None}
use Rattle.fk_index.proofs.Marking.{lent_marked, none_unmarked}
use Rattle.fk_index.proofs.owners.unmark.Goals as goal

pub returns-in-Some : goal.returns-in-Some
returns-in-Some c = lent_marked c.args.owners.now c.args.session c.get_mut.follows.lender c.in-Some.marks.now c.unmark_in.new.marks c.args.path.now None c.in-Some.ensures.value c.get_mut.follows.holds c.unmark_in.ensures

pub returns-in-None : goal.returns-in-None
returns-in-None c = none_unmarked c.args.owners.now c.get_mut.follows.lender-at-none c.args.session c.args.path.now c.in-None.ensures.value c.get_mut.follows.holds-at-none
