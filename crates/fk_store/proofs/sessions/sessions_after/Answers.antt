use Rattle.std.proofs.Common.{arith}
use Rattle.fk_store.proofs.Numbering.{written_at}
use Rattle.fk_store.proofs.sessions.sessions_after.Goals as goal

pub returns : goal.returns
returns c = λ s. written_at s c.args.writes.now c.args.sessions.now c.writing.after.items c.writing.place (omega arith) c.writing.invariant
