use Rattle.fk_agree_engine.proofs.Fits.{deployments_are_within_limits, new_engine_stands}
use Rattle.fk_agree_engine.proofs.events.engine_stands.Goals as goal

pub returns-clause-new : goal.returns-clause-new
returns-clause-new c = new_engine_stands

pub returns-clause-limits : goal.returns-clause-limits
returns-clause-limits c = deployments_are_within_limits
