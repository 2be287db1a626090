use Rattle.std.proofs.Common.{◌∷◌, refl, ◌∙◌, ap}
use Rattle.fk_script.specs.declared.deployment.Deployment.{Deployment}
use Rattle.fk_spec.specs.Next.{next_entry}
use Rattle.fk_spec.specs.Plan.{plan_of}
use Rattle.fk_spec.specs.Start.{clock_of}
use Rattle.fk_spec.specs.Schedule as schedule
use Rattle.fk_world.specs.Draining.{Stays}
use Rattle.fk_world.proofs.Emptying.{empties_here, empties_more, goes_more, next_is_playable}
use Rattle.fk_world.proofs.world.World.empty.Goals as goal

pub play-requires-clause-named : goal.play-requires-clause-named
play-requires-clause-named g c = (next_is_playable (plan_of c.going.self.deployment) c.going.self.past c.in-Some.event c.in-Some.ensures).named

pub play-requires-clause-moment : goal.play-requires-clause-moment
play-requires-clause-moment g c = (next_is_playable (plan_of c.going.self.deployment) c.going.self.past c.in-Some.event c.in-Some.ensures).moment

pub going-preserved : goal.going-preserved
going-preserved g c = record {
  emptied = λ k a. c.going.invariant.emptied k (empties_more (plan_of c.args.self.now.deployment) c.in-Some.event c.going.self.past c.play.new.self.past k
      (c.in-Some.ensures ∙ ap (λ (d : Deployment). schedule.next_of_drain (plan_of d) c.going.self.past) c.going.invariant.deployment)
      (c.in_ok-play.ensures.added.past ∙ ap (λ (d : Deployment). next_entry (plan_of d) c.going.self.past c.in-Some.event ∷ c.going.self.past) c.going.invariant.deployment) a);
  so_far = goes_more (plan_of c.args.self.now.deployment) c.args.self.now.past c.going.self.past c.play.new.self.past (next_entry (plan_of c.going.self.deployment) c.going.self.past c.in-Some.event)
      (c.in-Some.ensures ∙ ap (λ (d : Deployment). schedule.next_of_drain (plan_of d) c.going.self.past) c.going.invariant.deployment)
      c.in_ok-play.ensures.added.past c.going.invariant.so_far;
  deployment = c.in_ok-play.ensures.deployment ∙ c.going.invariant.deployment;
  clock = c.in_ok-play.ensures.clock
      ∙ (next_is_playable (plan_of c.going.self.deployment) c.going.self.past c.in-Some.event c.in-Some.ensures).still (clock_of c.going.self.past)
      ∙ c.going.invariant.clock;
  spent = c.in_ok-play.ensures.added.going;
}

pub returns-clause-emptied : goal.returns-clause-emptied
returns-clause-emptied g c = c.going.invariant.emptied c.going.self.past (empties_here (plan_of c.args.self.now.deployment) c.going.self.past
    (c.in_default.ensures ∙ ap (λ (d : Deployment). schedule.next_of_drain (plan_of d) c.going.self.past) c.going.invariant.deployment))

pub going-init : goal.going-init
going-init g c = record { emptied = λ k a. a; so_far = Stays; deployment = refl; clock = refl; spent = c.requires }
