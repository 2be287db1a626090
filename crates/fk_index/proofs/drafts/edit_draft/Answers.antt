use Rattle.fk_index.proofs.Drafting.{edited_draft}
use Rattle.fk_index.proofs.drafts.edit_draft.Goals as goal
use Rattle.fk_base.proofs.Logic.{ok_so}

pub returns-in-Some : goal.returns-in-Some
returns-in-Some c = ok_so c.edit_sorted.result c.edit_sorted.ensures.ok (edited_draft c.args.tx c.args.moment c.args.change.now c.args.drafts.now c.get_mut.follows.lender c.in-Some.node.now c.edit_sorted.new.node c.in-Some.ensures.value c.get_mut.follows.holds)
