use Rattle.std.proofs.Common.{drop, arith}
use Rattle.std.proofs.lemmas.List.{length_push}
use Rattle.fk_engine.proofs.Flying.{pushed_behind, pushed_rise}
use Rattle.fk_engine.proofs.in_flight.InFlight.push.Goals as goal

pub invariant_of-self-2 : goal.invariant_of-self-2
invariant_of-self-2 c =
    rw c.in_ok-push.ensures.items (
      omega (arith, c.self.invariant.0, length_push c.self.inside.items.items c.args.number),
      rw (pushed_behind c.self.inside.items.items c.self.inside.first c.args.number c.self.invariant.0)
          (pushed_rise (drop c.self.inside.first c.self.inside.items.items) c.args.number c.self.invariant.1 (rw c.self.view_is c.requires)),
    )
