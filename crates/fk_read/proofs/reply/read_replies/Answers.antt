use Rattle.std.proofs.Common.{◌∙◌, arith}
use Rattle.fk_print.specs.WellFormed.{IsPartReply}
use Rattle.fk_read.specs.ReadReply.{take_reply}
use Rattle.fk_read.proofs.Loops.{each_more, length_more, take_more}
use Rattle.fk_read.proofs.reply.read_replies.Goals as goal

pub reading-preserved : goal.reading-preserved
reading-preserved c =
    let x = c.in_ok-reply.reply in
    let pushed = c.in_ok-push.ensures.ok in
    let was = c.reading.replies in
    record {
      left = c.reading.invariant.left ∙ take_more take_reply c.args.count c.reading._done was c.push.new.self c.reading.words c.read_reply.new.words x (omega arith) c.in_ok-reply.ensures.reads pushed;
      fits = each_more IsPartReply was c.push.new.self x c.reading.invariant.fits c.in_ok-reply.ensures.fits pushed;
      counted = length_more was c.push.new.self x c.reading._done c.reading.invariant.counted pushed;
    }
