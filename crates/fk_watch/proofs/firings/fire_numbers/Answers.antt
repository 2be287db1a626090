use Rattle.std.specs.Map.Iter.{deref}
use Rattle.std.proofs.Common.{◌∙◌}
use Rattle.std.proofs.lemmas.Map.Iter.{rest_more}
use Rattle.fk_watch.proofs.Firing.{among_step, keeps_on}
use Rattle.fk_watch.proofs.firings.fire_numbers.Goals as goal

pub firing-preserved : goal.firing-preserved
firing-preserved c = (
  λ n. among_step c.args.tx c.args.change c.args.watches.now.entries c.in-Some.number.now c.firing.number-iterator c.next.new.self c.firing.fired.entries c.fire_number.new.fired.entries
      (rest_more deref c.firing.number-iterator c.next.new.self c.next.result c.in-Some.number c.in-Some.is c.next.ensures.steps) c.in_ok-fire_number.ensures.ok n
      ∙ c.firing.invariant.0 n,
  keeps_on c.args.tx c.args.watches.now.entries c.args.fired.now.entries c.firing.fired.entries c.fire_number.new.fired.entries c.firing.invariant.1 c.fire_number.ensures.kept,
)
