use Rattle.std.proofs.Common.{◌∙◌, ap}
use Rattle.fk_engine.specs.Engine.{engine_of}
use Rattle.fk_spec.specs.Plan.{plan_of}
use Rattle.fk_world.specs.Quiet as history
use Rattle.fk_world.specs.World.{View}
use Rattle.fk_world.proofs.Quieting.{quiet_is}
use Rattle.fk_world.proofs.world.World.quiet.Goals as goal

pub returns : goal.returns
returns g c = quiet_is c.self.inside.deployment (engine_of g.T.Table.meaning c.self.inside.engine) c.quiet.result c.self.invariant (ap (λ (v : View). v.spent) c.self.view_is ∙ c.requires) c.quiet.ensures
    ∙ ap (λ (v : View). history.is_quiet (plan_of v.deployment) v.past) c.self.view_is
