use Rattle.std.proofs.Common.{sym, ◌∙◌}
use Rattle.fk_script.proofs.LinesRead.{offends, one_more}
use Rattle.fk_script.proofs.read.read_lines.Goals as goal

pub returns-in-Some-2 : goal.returns-in-Some-2
returns-in-Some-2 c = offends c.args.schedule c.args.bytes.now c.reading.number c.reading.progress c.reading.rest.now c.in-Some.cut.rest.now
    (record { text = c.in-Some.cut.line.now; ended = c.in-Some.cut.ended }) c.in-Some-2.why c.reading.invariant c.in-Some.ensures.exact (sym c.in-Some-2.is ∙ c.in_ok-why.ensures.exact)

pub reading-preserved : goal.reading-preserved
reading-preserved c = one_more c.args.schedule c.args.bytes.now c.reading.number c.reading.progress c.take_line.new.progress c.reading.rest.now c.in-Some.cut.rest.now
    (record { text = c.in-Some.cut.line.now; ended = c.in-Some.cut.ended }) c.reading.invariant c.in-Some.ensures.exact c.in-Some.ensures.shorter
    (sym c.in_default-2.is ∙ c.in_ok-why.ensures.exact) (rw c.in_default-2.is at c.in_ok-why.ensures.none)
