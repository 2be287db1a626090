use Rattle.std.proofs.Common.{◌≡◌, false, subst}
use Rattle.fk_user.specs.Ids.{has_id}
use Rattle.fk_engine.proofs.Flying.{not_found}
use Rattle.fk_engine.proofs.in_flight.InFlight.place_of.Goals as goal

pub returns-in-Err-clause-none : goal.returns-in-Err-clause-none
returns-in-Err-clause-none c = subst (λ ns. has_id c.args.number ns ≡ false) c.as_slice.ensures.same (not_found c.args.number c.as_slice.result.now c.in-Err.field-0 (rw c.as_slice.ensures.same c.as_slice.ensures.rising) c.in-Err.ensures.position)
