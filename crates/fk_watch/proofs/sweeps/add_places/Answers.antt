use Rattle.std.proofs.Common.{◌∙◌}
use Rattle.fk_watch.proofs.Touching.{one_more_place}
use Rattle.fk_watch.proofs.sweeps.add_places.Goals as goal

pub adding-preserved : goal.adding-preserved
adding-preserved c = (
  one_more_place c.args.touches.now c.adding.touch-index c.touch-item.result c.adding.sweeps.entries c.add_place.new.sweeps.entries c.adding-test.true c.touch-item.is c.adding.invariant.0 c.add_place.ensures.places c.in_ok-add_place.ensures.place,
  λ p. c.add_place.ensures.same p ∙ c.adding.invariant.1 p,
)
