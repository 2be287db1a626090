use Rattle.std.proofs.Common.{◌++◌, take, arith}
use Rattle.std.proofs.lemmas.Grind.{common_steps}
use Rattle.fk_base.proofs.Joins.{consumes_more}
use Rattle.fk_base.proofs.source.read_all.Goals as goal

pub returns-then-is_err-clause-taken : goal.returns-then-is_err-clause-taken
returns-then-is_err-clause-taken g c =
    (c.reading.all.items ++ take c.in-Bytes.count c.read.new.into, grind (arith, common_steps), consumes_more _ _ _ _ _ c.reading.invariant.read c.in-Bytes.ensures.gives.2)
