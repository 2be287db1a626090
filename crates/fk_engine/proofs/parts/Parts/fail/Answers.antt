use Rattle.fk_engine.specs.FlightsStanding.{functions_of}
use Rattle.fk_engine.specs.Serving.{services_of}
use Rattle.fk_engine.proofs.Arming.{step_armed}
use Rattle.fk_engine.proofs.parts.Parts.fail.Goals as goal

pub step-requires : goal.step-requires
step-requires g c = rw c.arm.ensures (step_armed (services_of g.T.Table.meaning c.args.self.now.services) c.args.self.now.times ((functions_of c.args.self.now.functions).running c.args.function) c.requires)
