use Rattle.std.proofs.Common.{◌∙◌, ap}
use Rattle.std.specs.Prelude.{not}
use Rattle.fk_engine.specs.Engine.{engine_of}
use Rattle.fk_spec.specs.Next.{names_client, next_op}
use Rattle.fk_spec.specs.Plan.{plan_of}
use Rattle.fk_spec.specs.Schedule as schedule
use Rattle.fk_world.specs.World.{View}
use Rattle.fk_world.proofs.Emptying.{ready_fits, ready_is}
use Rattle.fk_world.proofs.world.World.ready.Goals as goal

pub ready-requires : goal.ready-requires
ready-requires g c = ready_fits c.self.inside.deployment (engine_of g.T.Table.meaning c.self.inside.engine) c.args.event.now c.self.invariant (ap (λ (v : View). v.spent) c.self.view_is ∙ c.requires.unspent)
    (ap (λ (v : View). names_client (plan_of v.deployment) c.args.event.now) c.self.view_is ∙ c.requires.named)

pub returns : goal.returns
returns g c = ready_is c.self.inside.deployment (engine_of g.T.Table.meaning c.self.inside.engine) c.args.event.now c.ready.result c.self.invariant (ap (λ (v : View). v.spent) c.self.view_is ∙ c.requires.unspent)
    (ap (λ (v : View). names_client (plan_of v.deployment) c.args.event.now) c.self.view_is ∙ c.requires.named) c.ready.ensures
    ∙ ap (λ (v : View). not (schedule.is_idle (next_op (plan_of v.deployment) v.past c.args.event.now))) c.self.view_is
