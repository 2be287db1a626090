use Rattle.std.proofs.Common.{List, sym, ◌∙◌, ap, subst}
use Rattle.fk_script.specs.declared.deployment.Deployment.{Deployment}
use Rattle.fk_spec.specs.Plan.{plan_of}
use Rattle.fk_world.specs.World as world
use Rattle.fk_live.specs.Choosing as choosing
use Rattle.fk_live.specs.Desk.{IsDesk, noted}
use Rattle.fk_live.specs.declared.pick.Pick.{Pick}
use Rattle.fk_live.specs.declared.worker.Worker.{Worker}
use Rattle.fk_live.proofs.Keeping.{keeps_noted, keeps_shown}
use Rattle.fk_live.proofs.desk.Desk.pick.Goals as goal

pub invariant_of-self-2 : goal.invariant_of-self-2
invariant_of-self-2 g c =
    let w = c.self.inside.world in
    let ws = c.self.inside.workers.items in
    let x = c.show.new.world in
    let own = c.worker_at-own.result in
    let shown = subst (λ (d : Deployment). IsDesk d x.past ws) (sym c.in_ok-show.ensures.deployment)
    (subst (λ (v : world.View). IsDesk w.deployment v.past ws) (sym c.in_ok-show.ensures.shown) (keeps_shown w ws c.args.now c.self.invariant)) in
    let given = c.note.ensures ∙ ap (λ (o : Pick). noted c.args.worker own o ws)
    (c.choice-choice.ensures ∙ ap (λ (xs : List Worker). choosing.choice (plan_of x.deployment) x.deployment.clients x.past xs own) c.as_slice-2.ensures.value) in
    subst (λ (xs : List Worker). IsDesk x.deployment x.past xs) (sym given) (keeps_noted x.deployment x.past ws c.args.worker own shown)
