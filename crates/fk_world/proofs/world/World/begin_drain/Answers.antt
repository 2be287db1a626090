use Rattle.std.proofs.Common.{◌+◌, ◌∷◌, ◌∙◌, ap, subst, List, ℕ}
use Rattle.std.proofs.lemmas.Result.{on_ok_weaker}
use Rattle.fk_print.specs.declared.event.Event.TheVariants as event
use Rattle.fk_script.specs.declared.deployment.Deployment.{Deployment}
use Rattle.fk_spec.specs.Next.{next_entry}
use Rattle.fk_spec.specs.Plan.{plan_of}
use Rattle.fk_spec.specs.Schedule.{Plays, crashes}
use Rattle.fk_spec.specs.Start.{clock_of}
use Rattle.fk_world.specs.Draining.{PlaysSome}
use Rattle.fk_world.specs.World.{View}
use Rattle.fk_world.proofs.Emptying.{begins, err_always, some_crashed}
use Rattle.fk_world.proofs.world.World.begin_drain.Goals as goal

pub returns-in_err-crash-clause-so_far : goal.returns-in_err-crash-clause-so_far
returns-in_err-crash-clause-so_far g c = err_always c.from_residual-in_err-crash.result
    (some_crashed (plan_of c.args.self.now.deployment) c.args.self.now.past c.crash.new.self.past c.as_slice.result.now
    (c.as_slice.ensures ∙ c.in_ok-numbers.ensures.numbers)
    (subst (λ (v : View). PlaysSome (crashes c.as_slice.result.now) v.past c.crash.new.self.past) c.in_ok-numbers.ensures.same c.in_err-crash.ensures.so_far))

pub returns-clause-begun : goal.returns-clause-begun
returns-clause-begun g c =
    let d = c.args.self.now.deployment in
    let h = c.args.self.now.past in
    let m = c.clock.result + c.deployment.result.now.config.lock + 1 in
    on_ok_weaker c.play.result (λ a. begins (plan_of d) h c.crash.new.self.past c.play.new.self.past c.as_slice.result.now m
    (c.as_slice.ensures ∙ c.in_ok-numbers.ensures.numbers)
    (ap (λ (n : ℕ). n + c.deployment.result.now.config.lock + 1) (c.clock.ensures c.requires.unspent) ∙ ap (λ (e : Deployment). clock_of h + e.config.lock + 1) c.deployment.ensures.same)
    (subst (λ (v : View). Plays (crashes c.as_slice.result.now) v.past c.crash.new.self.past) c.in_ok-numbers.ensures.same c.in_ok-crash.ensures.crashed)
    (a.past ∙ ap (λ (e : Deployment). next_entry (plan_of e) c.crash.new.self.past (event.Clock m) ∷ c.crash.new.self.past) (c.in_ok-crash.ensures.deployment ∙ c.in_ok-numbers.ensures.deployment)))
    c.play.ensures.added
