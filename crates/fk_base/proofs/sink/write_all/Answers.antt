use Rattle.std.proofs.Common.{arith, rules}
use Rattle.fk_base.proofs.Joins.{appends_more, take_rest}
use Rattle.fk_base.proofs.sink.write_all.Goals as goal

pub writing-preserved : goal.writing-preserved
writing-preserved g c = record {
  added = appends_more c.args.piece.now c.writing.at c.in-Took.count _ _ _ c.writing.invariant.added (rw take_rest at c.in-Took.ensures.takes.2);
  within = search rules;
  later = omega (arith, c.in-Took.ensures.later);
}
