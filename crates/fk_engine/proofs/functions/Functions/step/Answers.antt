use Rattle.std.proofs.Common.{◌≡◌, ℕ, ◌==◌, cond, Some, refl, sym, ◌∙◌, subst, ap}
use Rattle.std.specs.Prelude.{is_some, option_map}
use Rattle.fk_watch.specs.Setting.{at}
use Rattle.fk_engine.specs.Flights.{moved}
use Rattle.fk_engine.specs.FlightsStanding.{functions_of}
use Rattle.fk_engine.specs.Machines.{machine_of}
use Rattle.fk_engine.specs.Reads.{nothing_read}
use Rattle.fk_engine.specs.Serving.{services_of}
use Rattle.fk_engine.specs.Stepping.{IsReadBy, function_moved}
use Rattle.fk_engine.proofs.Running.{listed_same, low_same, moved_on, moved_out, running_after}
use Rattle.fk_engine.proofs.functions.Functions.step.Goals as goal
use Rattle.fk_engine.proofs.functions.Functions.step.Goals.{then-ended, else-ended}

pub returns-in_default-clause-given : goal.returns-in_default-clause-given
unfolding functions_of
returns-in_default-clause-given g c = (nothing_read, subst (λ o. IsReadBy (services_of g.T.Table.meaning c.args.services.now) nothing_read (option_map machine_of o)) c.in_default.ensures.value tt)

pub invariant_of-self-2 : goal.invariant_of-self-2
invariant_of-self-2 g c = record {
  listed = listed_same c.args.self.now.running.entries (c.get_mut.follows.lender c.step.new.self).entries c.args.number c.step.new.self c.in-Some.machine.now c.args.self.now.numbers
      (sym c.in-Some.ensures.value) ((c.get_mut.follows.holds c.step.new.self).3 (sym (ap is_some c.in-Some.ensures.value))).0 c.args.self.now.listed;
  low = low_same c.args.self.now.running.entries (c.get_mut.follows.lender c.step.new.self).entries c.args.self.now.started c.args.number c.step.new.self c.in-Some.machine.now
      (sym c.in-Some.ensures.value) ((c.get_mut.follows.holds c.step.new.self).3 (sym (ap is_some c.in-Some.ensures.value))).0 c.args.self.now.low;
}

pub returns-clause-after : goal.returns-clause-after
unfolding functions_of
returns-clause-after g c r h =
    subst (λ o. functions_of c.if-ended.self ≡ function_moved (services_of g.T.Table.meaning c.args.services.now) c.args.times r c.args.number (option_map machine_of o) (functions_of c.args.self.now)) c.in-Some.ensures.value
    (subst (λ m. functions_of c.if-ended.self ≡ moved c.args.number m (functions_of c.args.self.now))
    (c.in_ok-made.ensures.machine r (subst (λ o. IsReadBy (services_of g.T.Table.meaning c.args.services.now) r (option_map machine_of o)) (sym c.in-Some.ensures.value) h))
    (elim c.if-ended.branch [
      | then-ended w ↦ ap functions_of w.self-is ∙ w.end.ensures ∙ moved_out (functions_of c.args.self.now) _ c.args.number (machine_of c.step.new.self) refl after (sym c.ended.ensures ∙ w.if-ended.true)
      | else-ended w ↦ ap functions_of w.self-is ∙ moved_on (functions_of c.args.self.now) _ c.args.number (machine_of c.step.new.self) refl after (sym c.ended.ensures ∙ w.if-ended.false)
    ]))
  where
    after : (q : ℕ) → option_map machine_of (at q (c.get_mut.follows.lender c.step.new.self).entries) ≡ cond (q == c.args.number) (Some (machine_of c.step.new.self)) (option_map machine_of (at q c.args.self.now.running.entries))
    after = running_after c.args.self.now.running.entries (c.get_mut.follows.lender c.step.new.self).entries c.args.number (Some c.step.new.self) ((c.get_mut.follows.holds c.step.new.self).3 (sym (ap is_some c.in-Some.ensures.value))).0
