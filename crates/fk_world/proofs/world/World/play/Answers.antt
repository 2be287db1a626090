use Rattle.std.proofs.Common.{◌≡◌, true, sym, subst}
use Rattle.std.specs.Prelude.{OnErr, OnOk}
use Rattle.fk_engine.specs.Engine.{engine_of}
use Rattle.fk_spec.specs.Next.{names_client, next_entry}
use Rattle.fk_spec.specs.Plan.{plan_of}
use Rattle.fk_spec.specs.Start.{clock_of}
use Rattle.fk_world.specs.Clocks.{clock_shown}
use Rattle.fk_world.specs.World.{Adds, Stops, View}
use Rattle.fk_world.proofs.Going.{adds_told, clock_told, event_fits, seen, sound_told, stops_told}
use Rattle.fk_world.proofs.world.World.play.Goals as goal

pub apply_event-requires : goal.apply_event-requires
apply_event-requires g c = event_fits c.self.inside.deployment (engine_of g.T.Table.meaning c.self.inside.engine) c.args.event.now
    (record { sound = c.self.invariant; named = subst (λ (v : View). names_client (plan_of v.deployment) c.args.event.now ≡ true) (sym c.self.view_is) c.requires.named; moment = c.requires.moment })

pub invariant_of-self : goal.invariant_of-self
invariant_of-self g c = sound_told c.self.inside.deployment (engine_of g.T.Table.meaning c.self.inside.engine) (engine_of g.T.Table.meaning c.apply_event.new.self) c.args.event.now c.apply_event.result
    (record { sound = c.self.invariant; named = subst (λ (v : View). names_client (plan_of v.deployment) c.args.event.now ≡ true) (sym c.self.view_is) c.requires.named; moment = c.requires.moment })
    (record { played = c.apply_event.ensures.played; given = c.apply_event.ensures.given; sent = c.apply_event.ensures.sent; room = c.apply_event.ensures.room; unspent = c.apply_event.ensures.unspent; past = c.apply_event.ensures.past; spent = c.apply_event.ensures.spent })

pub returns-clause-added : goal.returns-clause-added
returns-clause-added g c =
    let d = c.self.inside.deployment in
    let m = engine_of g.T.Table.meaning c.self.inside.engine in
    let n = engine_of g.T.Table.meaning c.apply_event.new.self in
    subst (λ (v : View). OnOk c.apply_event.result (Adds (next_entry (plan_of v.deployment) v.past c.args.event.now) v (seen d n))) c.self.view_is (adds_told d m n c.args.event.now c.apply_event.result
    (record { sound = c.self.invariant; named = subst (λ (v : View). names_client (plan_of v.deployment) c.args.event.now ≡ true) (sym c.self.view_is) c.requires.named; moment = c.requires.moment })
    (record { played = c.apply_event.ensures.played; given = c.apply_event.ensures.given; sent = c.apply_event.ensures.sent; room = c.apply_event.ensures.room; unspent = c.apply_event.ensures.unspent; past = c.apply_event.ensures.past; spent = c.apply_event.ensures.spent }))

pub returns-clause-clock : goal.returns-clause-clock
returns-clause-clock g c =
    let d = c.self.inside.deployment in
    let m = engine_of g.T.Table.meaning c.self.inside.engine in
    let n = engine_of g.T.Table.meaning c.apply_event.new.self in
    subst (λ (v : View). OnOk c.apply_event.result (clock_of n.past ≡ clock_shown c.args.event.now (clock_of v.past))) c.self.view_is (clock_told d m n c.args.event.now c.apply_event.result
    (record { sound = c.self.invariant; named = subst (λ (v : View). names_client (plan_of v.deployment) c.args.event.now ≡ true) (sym c.self.view_is) c.requires.named; moment = c.requires.moment })
    (record { played = c.apply_event.ensures.played; given = c.apply_event.ensures.given; sent = c.apply_event.ensures.sent; room = c.apply_event.ensures.room; unspent = c.apply_event.ensures.unspent; past = c.apply_event.ensures.past; spent = c.apply_event.ensures.spent }))

pub returns-clause-stopped : goal.returns-clause-stopped
returns-clause-stopped g c =
    let d = c.self.inside.deployment in
    let m = engine_of g.T.Table.meaning c.self.inside.engine in
    let n = engine_of g.T.Table.meaning c.apply_event.new.self in
    subst (λ (v : View). OnErr c.apply_event.result (Stops v (seen d n))) c.self.view_is (stops_told d m n c.args.event.now c.apply_event.result
    (record { played = c.apply_event.ensures.played; given = c.apply_event.ensures.given; sent = c.apply_event.ensures.sent; room = c.apply_event.ensures.room; unspent = c.apply_event.ensures.unspent; past = c.apply_event.ensures.past; spent = c.apply_event.ensures.spent }))
