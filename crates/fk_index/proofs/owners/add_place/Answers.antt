use Rattle.std.proofs.Common.{◌∙◌}
use Rattle.fk_index.proofs.Marking.{lent_marks, lent_place, lent_places}
use Rattle.fk_index.proofs.owners.add_place.Goals as goal
use Rattle.fk_base.proofs.Logic.{ok_so}

pub returns-in-Some-clause-place : goal.returns-in-Some-clause-place
returns-in-Some-clause-place c = ok_so c.place_in.result c.place_in.ensures.place (lent_place c.add_marks.new.owners c.args.session c.get_mut.follows.lender c.in-Some.marks.now c.place_in.new.marks c.args.path.now c.in-Some.ensures.value c.get_mut.follows.holds)

pub returns-in-Some-clause-marks : goal.returns-in-Some-clause-marks
returns-in-Some-clause-marks c s p = lent_marks c.add_marks.new.owners c.args.session c.get_mut.follows.lender c.in-Some.marks.now c.place_in.new.marks c.in-Some.ensures.value c.get_mut.follows.holds c.place_in.ensures.marks s p ∙ c.add_marks.ensures.marks s p

pub returns-in-Some-clause-places : goal.returns-in-Some-clause-places
returns-in-Some-clause-places c s p h = lent_places c.add_marks.new.owners c.args.session c.get_mut.follows.lender c.in-Some.marks.now c.place_in.new.marks c.in-Some.ensures.value c.get_mut.follows.holds c.place_in.ensures.places s p (c.add_marks.ensures.places s p h)
