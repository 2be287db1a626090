use Rattle.std.proofs.Common.{List, ◌-◌, set, sym, ◌∙◌, ap, subst}
use Rattle.fk_spec.specs.Plan.{plan_of}
use Rattle.fk_spec.specs.Start.{clock_of}
use Rattle.fk_world.specs.World as world
use Rattle.fk_live.specs.Choosing.{worker_at}
use Rattle.fk_live.specs.Desk.{IsDesk}
use Rattle.fk_live.specs.declared.worker.Worker.{Worker}
use Rattle.fk_live.proofs.Keeping.{keeps_made, picked_plays}
use Rattle.fk_live.proofs.desk.Desk.make.Goals as goal

pub make_event-requires-clause-named : goal.make_event-requires-clause-named
make_event-requires-clause-named g c =
    (picked_plays (plan_of c.self.inside.world.deployment) c.self.inside.workers.items c.args.worker c.worker_at-own.result c.args.event.now c.self.invariant.picked
    (c.worker_at-own.ensures ∙ ap (worker_at c.args.worker) c.as_slice.ensures.value) (sym c.is_picked.ensures ∙ c.if-not-is_picked.false)).named

pub make_event-requires-clause-moment : goal.make_event-requires-clause-moment
make_event-requires-clause-moment g c =
    (picked_plays (plan_of c.self.inside.world.deployment) c.self.inside.workers.items c.args.worker c.worker_at-own.result c.args.event.now c.self.invariant.picked
    (c.worker_at-own.ensures ∙ ap (worker_at c.args.worker) c.as_slice.ensures.value) (sym c.is_picked.ensures ∙ c.if-not-is_picked.false)).moment

pub invariant_of-self-2 : goal.invariant_of-self-2
invariant_of-self-2 g c =
    let d = c.self.inside.world.deployment in
    let h = c.self.inside.world.past in
    let ws = c.self.inside.workers.items in
    let x = c.make_event.new.world in
    let a = c.in_ok-made.ensures.added in
    let plays = picked_plays (plan_of d) ws c.args.worker c.worker_at-own.result c.args.event.now c.self.invariant.picked
    (c.worker_at-own.ensures ∙ ap (worker_at c.args.worker) c.as_slice.ensures.value) (sym c.is_picked.ensures ∙ c.if-not-is_picked.false) in
    let kept = keeps_made d h ws c.args.worker c.args.event.now c.in_ok-made.made c.self.invariant plays
    (sym (ap (λ (v : world.View). clock_of v.past) a) ∙ c.in_ok-made.ensures.clock) (ap (λ (w : Worker). w.picked) c.in_ok-made.ensures.worker) in
    subst (λ (xs : List Worker). IsDesk x.deployment x.past xs) (sym c.set_worker.ensures)
    (subst (λ (v : world.View). IsDesk v.deployment v.past (set ws (c.args.worker - 1) c.in_ok-made.made)) (sym a) kept)
