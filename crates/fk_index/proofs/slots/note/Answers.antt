use Rattle.fk_index.specs.Parts.{note_record}
use Rattle.fk_index.proofs.Finding.{changed, slots_written}
use Rattle.fk_index.proofs.slots.note.Goals as goal

pub returns-in-Some-clause-records : goal.returns-in-Some-clause-records
returns-in-Some-clause-records c = changed c.args.slots.now c.args.path.now c.get_mut.follows.lender (note_record c.args.tx) c.in-Some.kept.now c.note_in.new.kept c.in-Some.ensures.value c.get_mut.follows.holds c.note_in.ensures

pub returns-in-Some-clause-slots : goal.returns-in-Some-clause-slots
returns-in-Some-clause-slots c = slots_written c.args.slots.now c.args.path.now c.get_mut.follows.lender c.in-Some.kept.now c.note_in.new.kept c.in-Some.ensures.value c.get_mut.follows.holds
