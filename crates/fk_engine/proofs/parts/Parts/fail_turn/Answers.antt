use Rattle.std.proofs.Common.{refl, map, ◌∙◌, ap}
use Rattle.fk_client.specs.Standing.{client_of}
use Rattle.fk_spec.specs.Plan.{nth}
use Rattle.fk_engine.specs.Serving.{calmed, services_of}
use Rattle.fk_engine.proofs.Arming.{turn_armed}
use Rattle.fk_engine.proofs.Turns.{turn_on}
use Rattle.fk_engine.proofs.Whole.{same_parts}
use Rattle.fk_engine.proofs.parts.Parts.fail_turn.Goals as goal

pub take_turn-requires : goal.take_turn-requires
take_turn-requires g c = rw c.arm.ensures (turn_armed (services_of g.T.Table.meaning c.args.self.now.services) (nth (map client_of c.args.self.now.clients.items) c.args.session) c.requires)

pub returns-clause-op : goal.returns-clause-op
returns-clause-op g c = λ r i. (turn_on c.arm.ensures c.in_ok-made.ensures).op r.told i

pub returns-clause-lines : goal.returns-clause-lines
returns-clause-lines g c = λ r i. (turn_on c.arm.ensures c.in_ok-made.ensures).lines r.told i

pub returns-clause-after : goal.returns-clause-after
returns-clause-after g c = λ r i. same_parts _ _ refl refl
    ((turn_on c.arm.ensures c.in_ok-made.ensures).clients r.told i)
    (c.calm.ensures ∙ ap calmed ((turn_on c.arm.ensures c.in_ok-made.ensures).services r.told i))
