use Rattle.std.proofs.Common.{◌∙◌, ap}
use Rattle.fk_engine.specs.Engine.{engine_of}
use Rattle.fk_spec.specs.Function as function
use Rattle.fk_spec.specs.Plan.{plan_of}
use Rattle.fk_world.specs.World.{View}
use Rattle.fk_world.proofs.Emptying.{flight_is}
use Rattle.fk_world.proofs.world.World.flight.Goals as goal

pub returns-in-Ok-clause-numbers : goal.returns-in-Ok-clause-numbers
returns-in-Ok-clause-numbers g c = c.in-Ok.ensures
    ∙ flight_is c.self.inside.deployment (engine_of g.T.Table.meaning c.self.inside.engine) c.in_flight.result.now c.self.invariant (ap (λ (v : View). v.spent) c.self.view_is ∙ c.requires) c.in_flight.ensures
    ∙ ap (λ (v : View). function.in_flight (plan_of v.deployment) v.past) c.self.view_is
