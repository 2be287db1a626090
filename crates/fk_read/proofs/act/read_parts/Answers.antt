use Rattle.std.proofs.Common.{◌∙◌, arith}
use Rattle.fk_print.specs.WellFormed.{IsPart}
use Rattle.fk_read.specs.ReadAct.{take_part}
use Rattle.fk_read.proofs.Loops.{each_more, length_more, take_more}
use Rattle.fk_read.proofs.act.read_parts.Goals as goal

pub reading-preserved : goal.reading-preserved
reading-preserved c =
    let x = c.in_ok-part.part in
    let pushed = c.in_ok-push.ensures.ok in
    let was = c.reading.parts in
    record {
      left = c.reading.invariant.left ∙ take_more take_part c.args.count c.reading._done was c.push.new.self c.reading.words c.read_part.new.words x (omega arith) c.in_ok-part.ensures.reads pushed;
      fits = each_more IsPart was c.push.new.self x c.reading.invariant.fits c.in_ok-part.ensures.fits pushed;
      counted = length_more was c.push.new.self x c.reading._done c.reading.invariant.counted pushed;
    }
