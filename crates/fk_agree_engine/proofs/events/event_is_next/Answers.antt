use Rattle.fk_agree_engine.proofs.Fits.{event_is_fit}
use Rattle.fk_agree_engine.proofs.Goes.{engine_goes_on, event_is_next}
use Rattle.fk_agree_engine.proofs.events.event_is_next.Goals as goal

pub returns-clause-fit : goal.returns-clause-fit
returns-clause-fit c = event_is_fit

pub returns-clause-next : goal.returns-clause-next
returns-clause-next c = event_is_next

pub returns-clause-stands : goal.returns-clause-stands
returns-clause-stands c = engine_goes_on
