use Rattle.std.proofs.Common.{◌+◌, ◌<◌, ◌^◌, refl, sym, ◌∙◌, ap, subst, List}
use Rattle.fk_script.specs.declared.deployment.Deployment.{Deployment}
use Rattle.fk_script.specs.declared.deployment.Turn.{Turn}
use Rattle.fk_spec.specs.Plan.{plan_of}
use Rattle.fk_spec.specs.Schedule.{TakesTurn}
use Rattle.fk_spec.specs.Start.{clock_of}
use Rattle.fk_run.specs.Turns.{AreFit, Takes, clock_turned}
use Rattle.fk_run.proofs.Turning.{IsLow, first_turn, first_turn_of, low_after, low_at_first, other_turns, turn_has_time, turns_are_fit}
use Rattle.fk_run.proofs.playing.take.Goals as goal

pub taking-init : goal.taking-init
taking-init g c = record {
  same = refl;
  fit = subst (AreFit (plan_of c.args.world.now.deployment)) (sym c.requires.turns) (turns_are_fit c.args.world.now.deployment c.requires.meant);
  early = low_at_first c.args.world.now.deployment c.args.turns.now c.args.world.now.past c.requires.turns c.requires.new;
  goes = λ k t. t;
}

pub take_turn-requires-clause-early : goal.take_turn-requires-clause-early
take_turn-requires-clause-early g c = subst (λ (d : Deployment). clock_of c.taking.world.past + d.config.lock + 1 < 2 ^ 63) (sym c.taking.invariant.same)
    (turn_has_time c.args.world.now.deployment c.taking.rest.now (clock_of c.taking.world.past) c.requires.meant c.taking.invariant.early)

pub taking-preserved : goal.taking-preserved
taking-preserved g c =
    let d = c.args.world.now.deployment in
    let ts = c.taking.rest.now in
    let h = c.taking.world.past in
    let k = c.take_turn.new.world.past in
    let q = first_turn_of ts c.in-len1-up.len_at_least in
    let f = subst (AreFit (plan_of d)) q c.taking.invariant.fit in
    record {
      same = c.in_ok-take_turn.ensures.deployment ∙ c.taking.invariant.same;
      fit = f.1;
      early = low_after d (first_turn ts) (other_turns ts) (clock_of h) (clock_of k) f.0
          (c.in_ok-take_turn.ensures.clock ∙ ap (λ (e : Deployment). clock_turned (plan_of e) (first_turn ts) (clock_of h)) c.taking.invariant.same)
          (subst (λ (z : List Turn). IsLow d z (clock_of h)) q c.taking.invariant.early);
      goes = λ j r. c.taking.invariant.goes j (subst (λ (z : List Turn). Takes (plan_of d) z h j) (sym q)
          (k, subst (λ (e : Deployment). TakesTurn (plan_of e) (first_turn ts) h k) c.taking.invariant.same c.in_ok-take_turn.ensures.taken, r));
    }
