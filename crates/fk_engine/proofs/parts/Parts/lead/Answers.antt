use Rattle.std.proofs.Common.{refl, ◌∙◌, ap}
use Rattle.fk_lead.specs.Meaning as leader
use Rattle.fk_lead.specs.Standing.{leader_of}
use Rattle.fk_queue.specs.declared.lane.Lane.TheVariants as lane
use Rattle.fk_engine.specs.Events.{lane_in, next_number}
use Rattle.fk_engine.specs.FlightsStanding.{functions_of}
use Rattle.fk_engine.specs.Parts.{parts_of}
use Rattle.fk_engine.proofs.Leading.{led}
use Rattle.fk_engine.proofs.Whole.{same_parts}
use Rattle.fk_engine.proofs.parts.Parts.lead.Goals as goal

pub returns-clause-after : goal.returns-clause-after
returns-clause-after g c = λ r h. same_parts _ _ refl
    (led (functions_of c.args.self.now.functions) (functions_of c.start.new.self) (next_number (parts_of g.T.Table.meaning c.args.self.now)) c.in-Some.tx c.in_ok-message.message r.pushed
    (lane_in (parts_of g.T.Table.meaning c.args.self.now) lane.Leader).waiting (leader_of c.start-leader.result) c.in-Some.ensures h c.in_ok-message.ensures.back
    (c.start-leader.ensures ∙ ap (λ n. leader.started n c.in-Some.tx c.in_ok-message.message) c.next-function.ensures) c.in_ok-start.ensures.ok)
    refl refl
