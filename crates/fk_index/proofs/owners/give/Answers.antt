use Rattle.std.proofs.Common.{eqb, None, Some, true, ◌∙◌, ap, arith}
use Rattle.std.specs.Prelude.{is_some}
use Rattle.fk_index.specs.Owners.{is_set}
use Rattle.fk_index.proofs.Marking.{apart, entered, left_none, other_path, still_placed}
use Rattle.fk_index.proofs.owners.give.Goals as goal

pub returns-then-from-to-clause-here : goal.returns-then-from-to-clause-here
returns-then-from-to-clause-here c s l = c.requires.marked s l ∙ ap (λ n. eqb n s) c.if-from-to.true

pub mark-requires : goal.mark-requires
mark-requires c = still_placed c.args.owners.now c.unmark.new.owners c.args.from c.args.to c.args.path.now (apart c.args.from c.args.to c.if-from-to.false) c.unmark.ensures (c.requires.place (omega (arith, c.if-to-eq0.false)))

pub returns-then-to-eq0-clause-here : goal.returns-then-to-eq0-clause-here
returns-then-to-eq0-clause-here c = left_none c.args.owners.now c.unmark.new.owners c.args.from c.args.to c.args.path.now c.if-to-eq0.true c.unmark.ensures c.requires.marked

pub returns-then-to-eq0-clause-marks : goal.returns-then-to-eq0-clause-marks
returns-then-to-eq0-clause-marks c s p h = ap is_set (other_path c.args.owners.now c.unmark.new.owners c.args.from c.args.path.now None c.unmark.ensures s p h)

pub returns-then-to-eq0-clause-places : goal.returns-then-to-eq0-clause-places
returns-then-to-eq0-clause-places c s p h = ap is_some (other_path c.args.owners.now c.unmark.new.owners c.args.from c.args.path.now None c.unmark.ensures s p h)

pub returns-clause-here : goal.returns-clause-here
returns-clause-here c = entered c.args.owners.now c.unmark.new.owners c.mark.new.owners c.args.from c.args.to c.args.path.now c.unmark.ensures c.requires.marked c.mark.ensures

pub returns-clause-marks : goal.returns-clause-marks
returns-clause-marks c s p h =
    ap is_set (other_path c.unmark.new.owners c.mark.new.owners c.args.to c.args.path.now (Some true) c.mark.ensures s p h
    ∙ other_path c.args.owners.now c.unmark.new.owners c.args.from c.args.path.now None c.unmark.ensures s p h)

pub returns-clause-places : goal.returns-clause-places
returns-clause-places c s p h =
    ap is_some (other_path c.unmark.new.owners c.mark.new.owners c.args.to c.args.path.now (Some true) c.mark.ensures s p h
    ∙ other_path c.args.owners.now c.unmark.new.owners c.args.from c.args.path.now None c.unmark.ensures s p h)
