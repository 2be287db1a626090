use Rattle.std.proofs.Common.{refl}
use Rattle.fk_store.specs.Writes.{release_record}
use Rattle.fk_index.proofs.Finding.{changed, missing, slots_written}
use Rattle.fk_index.proofs.slots.release.Goals as goal

pub returns-in-Some-clause-records : goal.returns-in-Some-clause-records
returns-in-Some-clause-records c = changed c.args.slots.now c.args.path.now c.get_mut.follows.lender release_record c.in-Some.kept.now c.release_in.new.kept c.in-Some.ensures.value c.get_mut.follows.holds c.release_in.ensures

pub returns-in-Some-clause-slots : goal.returns-in-Some-clause-slots
returns-in-Some-clause-slots c = slots_written c.args.slots.now c.args.path.now c.get_mut.follows.lender c.in-Some.kept.now c.release_in.new.kept c.in-Some.ensures.value c.get_mut.follows.holds

pub returns-in-None-clause-records : goal.returns-in-None-clause-records
returns-in-None-clause-records c = missing c.args.slots.now c.get_mut.follows.lender-at-none c.args.path.now release_record c.in-None.ensures.value refl c.get_mut.follows.holds-at-none
