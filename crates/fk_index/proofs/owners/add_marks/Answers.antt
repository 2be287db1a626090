use Rattle.std.proofs.Common.{sym, ◌∙◌}
use Rattle.fk_index.proofs.Marking.{marks_added, places_added}
use Rattle.fk_index.proofs.owners.add_marks.Goals as goal

pub returns-clause-marks : goal.returns-clause-marks
returns-clause-marks c = marks_added c.args.owners.now c.insert.new.self c.args.session c.new.result (sym c.contains_key.ensures ∙ c.if-contains_key.false) c.new.ensures.empty c.in_ok-insert.ensures.updates.0

pub returns-clause-places : goal.returns-clause-places
returns-clause-places c = places_added c.args.owners.now c.insert.new.self c.args.session c.new.result (sym c.contains_key.ensures ∙ c.if-contains_key.false) c.in_ok-insert.ensures.updates.0
