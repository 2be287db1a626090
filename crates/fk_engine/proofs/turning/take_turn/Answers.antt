use Rattle.std.proofs.Common.{refl, subst}
use Rattle.fk_engine.specs.Fit.{FitsTurnOf}
use Rattle.fk_engine.specs.Serving.{services_of}
use Rattle.fk_engine.proofs.Turns.{client_at, turn_past, turn_within}
use Rattle.fk_engine.proofs.turning.take_turn.Goals as goal
use Rattle.fk_base.proofs.Logic.{ok_each}

pub returns-in-None : goal.returns-in-None
returns-in-None g c = turn_past _ _ _ _ _ (rw (← c.as_slice.ensures.value) c.in-None.ensures.none) c.new.ensures

pub take-requires : goal.take-requires
take-requires g c = subst (FitsTurnOf (services_of g.T.Table.meaning c.args.services.now))
    (client_at c.args.clients.now.items c.args.session c.in-Some.place c.index_mut.result.now c.in-Some.ensures.place (rw (← c.as_slice.ensures.value) c.in-Some.ensures.within) c.index_mut.ensures.value) c.requires

pub returns-in-Some : goal.returns-in-Some
returns-in-Some g c = ok_each c.take.result c.take.ensures (λ x h. turn_within _ _ c.args.clients.now.items _ c.args.session c.in-Some.place c.index_mut.result.now c.take.new.client _ _
    c.in-Some.ensures.place (rw (← c.as_slice.ensures.value) c.in-Some.ensures.within) c.index_mut.ensures.value refl h)
