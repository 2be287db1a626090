use Rattle.fk_index.proofs.Drafting.{edited_over}
use Rattle.fk_index.proofs.drafts.draft_edit.Goals as goal
use Rattle.fk_base.proofs.Logic.{ok_so}

pub returns : goal.returns
returns c = ok_so c.edit_draft.result c.edit_draft.ensures (edited_over c.args.tx c.args.moment c.args.change.now c.args.drafts.now c.stage.new.drafts c.edit_draft.new.drafts c.args.slots.now c.in_ok-stage.ensures.edited c.in_ok-stage.ensures.others)
