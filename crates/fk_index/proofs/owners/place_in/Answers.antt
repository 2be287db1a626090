use Rattle.std.proofs.Common.{false, sym, ◌∙◌}
use Rattle.fk_index.proofs.Marking.{marks_placed, places_placed}
use Rattle.fk_index.proofs.owners.place_in.Goals as goal

pub returns-clause-marks : goal.returns-clause-marks
returns-clause-marks c = marks_placed c.args.marks.now c.insert.new.self c.args.path.now (sym c.contains_key.ensures ∙ c.if-contains_key.false) (rw c.in_ok-copy.ensures at c.in_ok-insert.ensures.updates.0)

pub returns-clause-places : goal.returns-clause-places
returns-clause-places c = places_placed c.args.marks.now c.insert.new.self c.args.path.now false (rw c.in_ok-copy.ensures at c.in_ok-insert.ensures.updates.0)
