use Rattle.std.proofs.Common.{◌∙◌, arith}
use Rattle.fk_base.specs.Limits.{IsPath}
use Rattle.fk_read.specs.ReadWords.{path_of_word}
use Rattle.fk_read.specs.Reads.{take}
use Rattle.fk_read.proofs.Loops.{each_more, length_more, take_more}
use Rattle.fk_read.proofs.act.read_paths.Goals as goal

pub reading-preserved : goal.reading-preserved
reading-preserved c =
    let x = c.in_ok-path.path in
    let pushed = c.in_ok-push.ensures.ok in
    let was = c.reading.paths in
    record {
      left = c.reading.invariant.left ∙ take_more (take path_of_word) c.args.count c.reading._done was c.push.new.self c.reading.words c.path.new.self x (omega arith) c.in_ok-path.ensures.reads pushed;
      fits = each_more IsPath was c.push.new.self x c.reading.invariant.fits c.in_ok-path.ensures.fits pushed;
      counted = length_more was c.push.new.self x c.reading._done c.reading.invariant.counted pushed;
    }
