use Rattle.std.proofs.Common.{refl}
use Rattle.fk_engine.proofs.Oks.{ok_all}
use Rattle.fk_engine.proofs.Whole.{same_parts}
use Rattle.fk_engine.proofs.parts.Parts.turn.Goals as goal
use Rattle.fk_base.proofs.Logic.{ok_each}

pub returns-clause-op : goal.returns-clause-op
returns-clause-op g c = ok_each c.take_turn.result c.take_turn.ensures (λ x h r i. h.op r.told i)

pub returns-clause-lines : goal.returns-clause-lines
returns-clause-lines g c = ok_each c.take_turn.result c.take_turn.ensures (λ x h r i. h.lines r.told i)

pub returns-clause-after : goal.returns-clause-after
returns-clause-after g c = ok_all c.take_turn.result c.take_turn.ensures (λ x h r i. same_parts _ _ refl refl (h.clients r.told i) (h.services r.told i))
