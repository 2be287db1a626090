use Rattle.std.proofs.Common.{◌∙◌, ap}
use Rattle.fk_engine.specs.Engine.{engine_of}
use Rattle.fk_spec.specs.Plan.{plan_of}
use Rattle.fk_spec.specs.Schedule as schedule
use Rattle.fk_world.specs.World.{View}
use Rattle.fk_world.proofs.Emptying.{drain_fits, next_is}
use Rattle.fk_world.proofs.world.World.next_of_drain.Goals as goal

pub next_of_drain-requires : goal.next_of_drain-requires
next_of_drain-requires g c = drain_fits c.self.inside.deployment (engine_of g.T.Table.meaning c.self.inside.engine) c.self.invariant (ap (λ (v : View). v.spent) c.self.view_is ∙ c.requires)

pub returns : goal.returns
returns g c = next_is c.self.inside.deployment (engine_of g.T.Table.meaning c.self.inside.engine) c.next_of_drain.result c.self.invariant (ap (λ (v : View). v.spent) c.self.view_is ∙ c.requires) c.next_of_drain.ensures
    ∙ ap (λ (v : View). schedule.next_of_drain (plan_of v.deployment) v.past) c.self.view_is
