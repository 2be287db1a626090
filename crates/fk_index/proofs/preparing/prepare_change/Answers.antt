use Rattle.fk_index.proofs.Readiness.{begun, flushed_ready, placed_ready}
use Rattle.fk_index.proofs.preparing.prepare_change.Goals as goal
use Rattle.fk_base.proofs.Logic.{ok_each}

pub begin-requires : goal.begin-requires
begin-requires c = (flushed_ready c.args.waiting c.args.drafts.now c.flush.new.drafts c.args.slots.now c.args.owners.now c.requires.ready c.requires.lone c.in_ok-flush.ensures).rising

pub returns-clause-stands : goal.returns-clause-stands
returns-clause-stands c =
    ok_each c.begin.result c.begin.ensures (λ w b.
    begun c.args.step c.args.waiting w c.args.drafts.now c.flush.new.drafts c.begin.new.drafts c.args.slots.now c.place_made.new.owners
    (placed_ready c.flush.new.drafts c.args.slots.now c.args.owners.now c.place_made.new.owners c.in_ok-place_made.ensures.places (flushed_ready c.args.waiting c.args.drafts.now c.flush.new.drafts c.args.slots.now c.args.owners.now c.requires.ready c.requires.lone c.in_ok-flush.ensures))
    c.in_ok-place_made.ensures.place c.in_ok-flush.ensures b)
