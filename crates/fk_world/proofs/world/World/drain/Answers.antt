use Rattle.std.proofs.Common.{subst}
use Rattle.std.proofs.lemmas.Result.{on_err_weaker}
use Rattle.fk_script.specs.declared.deployment.Deployment.{Deployment}
use Rattle.fk_spec.specs.Plan.{plan_of}
use Rattle.fk_world.specs.Draining.{Empties, GoesTo}
use Rattle.fk_world.proofs.world.World.drain.Goals as goal

pub returns-clause-so_far : goal.returns-clause-so_far
returns-clause-so_far g c = on_err_weaker c.empty.result
    (λ a. Empties c.begin_drain.new.self.past c.in_ok-begin_drain.ensures.begun
    (subst (λ (d : Deployment). GoesTo (plan_of d) c.begin_drain.new.self.past c.empty.new.self.past) c.in_ok-begin_drain.ensures.deployment a))
    c.empty.ensures.so_far
