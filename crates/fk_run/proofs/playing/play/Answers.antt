use Rattle.std.proofs.Common.{◌∙◌, sym, ap, subst}
use Rattle.fk_script.specs.PrintLaws.{IsMeant}
use Rattle.fk_script.specs.declared.deployment.Deployment.{Deployment}
use Rattle.fk_spec.specs.Next.{IsHistory}
use Rattle.fk_spec.specs.Plan.{plan_of}
use Rattle.fk_spec.specs.Start.{clock_of}
use Rattle.fk_world.specs.World.{View}
use Rattle.fk_run.proofs.Turning.{last_drain_has_time, played}
use Rattle.fk_run.proofs.playing.play.Goals as goal

pub take-requires-clause-meant : goal.take-requires-clause-meant
take-requires-clause-meant g c = subst IsMeant (sym c.in_ok-world.ensures.deployment) c.requires.meant

pub take-requires-clause-turns : goal.take-requires-clause-turns
take-requires-clause-turns g c = c.as_slice.ensures ∙ c.in_ok-turns.ensures ∙ ap (λ (d : Deployment). d.turns) (sym c.in_ok-world.ensures.deployment)

pub drain-requires : goal.drain-requires
drain-requires g c = last_drain_has_time c.args.deployment c.in_ok-world.world.deployment c.take.new.world.deployment c.as_slice.result.now (clock_of c.take.new.world.past)
    c.requires.meant c.in_ok-world.ensures.deployment (c.in_ok-take.ensures.deployment ∙ c.in_ok-world.ensures.deployment) (c.as_slice.ensures ∙ c.in_ok-turns.ensures) c.in_ok-take.ensures.clock

pub returns-clause-run : goal.returns-clause-run
returns-clause-run g c =
    let a = c.in_ok-world.ensures.deployment in
    let b = c.in_ok-take.ensures.deployment ∙ a in
    played c.args.deployment c.in_ok-world.world.deployment c.take.new.world.deployment c.drain.new.self.deployment c.as_slice.result.now c.in_ok-world.world.past c.take.new.world.past c.drain.new.self.past
    a b (c.in_ok-drain.ensures.deployment ∙ b) (c.as_slice.ensures ∙ c.in_ok-turns.ensures) c.in_ok-world.ensures.past c.in_ok-take.ensures.taken c.in_ok-drain.ensures.drained
    (subst (λ (v : View). IsHistory (plan_of v.deployment) v.past) c.world-2.view_is c.world-2.invariant.past)
