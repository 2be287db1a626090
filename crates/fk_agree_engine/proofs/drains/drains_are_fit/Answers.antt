use Rattle.fk_agree_engine.proofs.Asks.{drain_is_fit, ready_is_fit}
use Rattle.fk_agree_engine.proofs.drains.drains_are_fit.Goals as goal

pub returns-clause-drain : goal.returns-clause-drain
returns-clause-drain c = drain_is_fit

pub returns-clause-ready : goal.returns-clause-ready
returns-clause-ready c = ready_is_fit
