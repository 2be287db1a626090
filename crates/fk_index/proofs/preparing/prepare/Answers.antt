use Rattle.fk_index.proofs.Finishing.{all_prepared}
use Rattle.fk_index.proofs.Readiness.{one_prepared}
use Rattle.fk_index.proofs.preparing.prepare.Goals as goal

pub preparing-preserved : goal.preparing-preserved
preparing-preserved c =
    one_prepared c.args.writes.now c.preparing.write-index c.write-item.result c.preparing.waiting _ c.args.slots.now c.preparing.slots c.prepare_write.new.slots c.args.owners.now c.preparing.owners c.prepare_write.new.owners c.preparing.drafts c.prepare_write.new.drafts
    c.preparing-test.true c.write-item.is c.preparing.invariant c.in_ok-waiting.ensures.grows c.in_ok-waiting.ensures.slot c.in_ok-waiting.ensures.stands

pub returns-clause-ok : goal.returns-clause-ok
returns-clause-ok c =
    all_prepared c.args.writes.now c.preparing.write-index c.preparing.waiting c.preparing.drafts c.args.slots.now c.preparing.slots c.finish.new.slots c.args.owners.now c.preparing.owners
    c.preparing-test.false c.preparing.invariant c.requires.owned c.in_ok-finish.ensures.ok c.in_ok-finish.ensures.slots
