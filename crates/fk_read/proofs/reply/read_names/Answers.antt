use Rattle.std.proofs.Common.{◌∙◌, arith}
use Rattle.fk_print.specs.WellFormed.{IsShownName}
use Rattle.fk_read.specs.ReadWords.{name_of_word}
use Rattle.fk_read.specs.Reads.{take}
use Rattle.fk_read.proofs.Loops.{each_more, length_more, take_more}
use Rattle.fk_read.proofs.reply.read_names.Goals as goal

pub reading-preserved : goal.reading-preserved
reading-preserved c =
    let x = c.in_ok-name.name in
    let pushed = c.in_ok-push.ensures.ok in
    let was = c.reading.names in
    record {
      left = c.reading.invariant.left ∙ take_more (take name_of_word) c.args.count c.reading._done was c.push.new.self c.reading.words c.name.new.self x (omega arith) c.in_ok-name.ensures.reads pushed;
      fits = each_more IsShownName was c.push.new.self x c.reading.invariant.fits c.in_ok-name.ensures.fits pushed;
      counted = length_more was c.push.new.self x c.reading._done c.reading.invariant.counted pushed;
    }
