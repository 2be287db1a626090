use Rattle.std.proofs.Common.{None}
use Rattle.fk_lead.proofs.Indexing.{kept_updated}
use Rattle.fk_lead.proofs.indexed.take.Goals as goal

-- src/indexed.rt
pub returns-in-None-clause-rest : goal.returns-in-None-clause-rest
returns-in-None-clause-rest c = kept_updated c.args.own.now c.remove.new.self c.args.path.now None c.remove.ensures.updates.0

pub returns-in-Some-clause-rest : goal.returns-in-Some-clause-rest
returns-in-Some-clause-rest c = kept_updated c.args.own.now c.remove.new.self c.args.path.now None c.remove.ensures.updates.0
