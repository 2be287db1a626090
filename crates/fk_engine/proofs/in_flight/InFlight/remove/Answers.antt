use Rattle.std.proofs.Common.{◌+◌, drop, sym, arith}
use Rattle.fk_user.proofs.Placing.{without_absent}
use Rattle.fk_engine.proofs.Flying.{first_out, other_out, rises_out, taken_within, within_out}
use Rattle.fk_engine.proofs.in_flight.InFlight.remove.Goals as goal

pub returns-in_default : goal.returns-in_default
returns-in_default c = sym (without_absent c.args.number c.args.self.now (rw c.in_default.is at c.place_of.ensures.none))

pub invariant_of-self : goal.invariant_of-self
invariant_of-self c = (
  omega (arith, within_out c.self.inside.items.items c.args.self.now c.self.inside.first c.in-Some.place c.args.number c.self.view_is c.in-Some.ensures.some, c.if-place-eq0.true),
  rises_out (drop c.self.inside.first c.self.inside.items.items) (drop (c.self.inside.first + 1) c.self.inside.items.items) c.args.self.now c.args.number c.self.view_is c.self.invariant.1
      (first_out c.self.inside.items.items c.args.self.now c.self.inside.first c.in-Some.place c.args.number c.self.view_is c.self.invariant.1 c.in-Some.ensures.some c.if-place-eq0.true),
)

pub overflow_add-self-inside : goal.overflow_add-self-inside
overflow_add-self-inside c = omega (arith, within_out c.self.inside.items.items c.args.self.now c.self.inside.first c.in-Some.place c.args.number c.self.view_is c.in-Some.ensures.some, c.as_slice-length.ensures.len)

pub remove-requires : goal.remove-requires
remove-requires c = rw (← c.as_slice-length.ensures.len, c.as_slice-length.ensures.value) (within_out c.self.inside.items.items c.args.self.now c.self.inside.first c.in-Some.place c.args.number c.self.view_is c.in-Some.ensures.some)

pub invariant_of-self-else-place-eq0 : goal.invariant_of-self-else-place-eq0
invariant_of-self-else-place-eq0 c = (
  taken_within c.self.inside.items.items c.remove.new.self.items c.self.inside.first c.in-Some.place
      (within_out c.self.inside.items.items c.args.self.now c.self.inside.first c.in-Some.place c.args.number c.self.view_is c.in-Some.ensures.some) c.remove.ensures.items,
  rises_out (drop c.self.inside.first c.self.inside.items.items) (drop c.self.inside.first c.remove.new.self.items) c.args.self.now c.args.number c.self.view_is c.self.invariant.1
      (other_out c.self.inside.items.items c.remove.new.self.items c.args.self.now c.self.inside.first c.in-Some.place c.args.number c.self.view_is c.self.invariant.1 c.in-Some.ensures.some c.remove.ensures.items),
)

pub returns-then-place-eq0 : goal.returns-then-place-eq0
returns-then-place-eq0 c = first_out c.self.inside.items.items c.args.self.now c.self.inside.first c.in-Some.place c.args.number c.self.view_is c.self.invariant.1 c.in-Some.ensures.some c.if-place-eq0.true

pub returns-else-place-eq0 : goal.returns-else-place-eq0
returns-else-place-eq0 c = other_out c.self.inside.items.items c.remove.new.self.items c.args.self.now c.self.inside.first c.in-Some.place c.args.number c.self.view_is c.self.invariant.1 c.in-Some.ensures.some c.remove.ensures.items
