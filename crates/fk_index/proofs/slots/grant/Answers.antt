use Rattle.fk_store.specs.Writes.{grant_record}
use Rattle.fk_index.proofs.Finding.{changed, slots_written}
use Rattle.fk_index.proofs.slots.grant.Goals as goal

pub returns-in-Some-clause-records : goal.returns-in-Some-clause-records
returns-in-Some-clause-records c = changed c.args.slots.now c.args.path.now c.get_mut.follows.lender (grant_record c.args.inv c.args.moment) c.in-Some.kept.now c.grant_in.new.kept c.in-Some.ensures.value c.get_mut.follows.holds c.grant_in.ensures

pub returns-in-Some-clause-slots : goal.returns-in-Some-clause-slots
returns-in-Some-clause-slots c = slots_written c.args.slots.now c.args.path.now c.get_mut.follows.lender c.in-Some.kept.now c.grant_in.new.kept c.in-Some.ensures.value c.get_mut.follows.holds
