use Rattle.std.proofs.Common.{sym, arith}
use Rattle.fk_base.proofs.Numerals.{no_number, number_in, number_out}
use Rattle.fk_base.proofs.digits.number_below.Goals as goal

pub returns-then-number-limit-clause-reads : goal.returns-then-number-limit-clause-reads
returns-then-number-limit-clause-reads c = number_in c.args.limit c.args.text.now c.in-Ok.number c.in-Ok.ensures.value.0 (omega arith)

pub returns-else-number-limit-clause-reads : goal.returns-else-number-limit-clause-reads
returns-else-number-limit-clause-reads c = number_out c.args.limit c.args.text.now c.in-Ok.number c.in-Ok.ensures.value.0 (omega arith)

pub returns-in-Err-clause-reads : goal.returns-in-Err-clause-reads
returns-in-Err-clause-reads c = sym (no_number c.args.limit c.args.text.now (omega arith) c.in-Err.ensures.value.0)
