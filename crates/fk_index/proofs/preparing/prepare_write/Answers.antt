use Rattle.fk_index.proofs.Readiness.{makes_edit, still_ready, waits_on}
use Rattle.fk_index.proofs.preparing.prepare_write.Goals as goal
use Rattle.fk_base.proofs.Logic.{ok_each}

pub prepare_change-requires-clause-ready : goal.prepare_change-requires-clause-ready
prepare_change-requires-clause-ready c = still_ready c.args.drafts.now c.args.slots.now c.place_of.new.slots c.args.owners.now c.in_ok-place_of.ensures.same c.requires.ready

pub returns-in-None-clause-stands : goal.returns-in-None-clause-stands
returns-in-None-clause-stands c = waits_on c.args.write.now c.args.waiting c.args.drafts.now c.args.slots.now c.place_of.new.slots c.args.owners.now c.in_ok-place_of.ensures.same c.in-None.ensures c.requires.ready c.requires.lone

pub returns-in-Some-clause-stands : goal.returns-in-Some-clause-stands
returns-in-Some-clause-stands c =
    ok_each c.prepare_change.result c.prepare_change.ensures.stands (λ x t.
    makes_edit c.in-Some.step c.args.write.now c.args.waiting x c.args.drafts.now c.prepare_change.new.drafts c.args.slots.now c.place_of.new.slots c.prepare_change.new.owners c.in_ok-place_of.ensures.same c.in-Some.ensures t)
