use Rattle.fk_law_drain.proofs.Draining.{drains_are_calm, drains_are_unhindered}
use Rattle.fk_law_drain.proofs.unhindered_drains.drains_are_unhindered.Goals as goal

pub returns-clause-calm : goal.returns-clause-calm
returns-clause-calm c = drains_are_calm

pub returns-clause-goes : goal.returns-clause-goes
returns-clause-goes c = drains_are_unhindered
