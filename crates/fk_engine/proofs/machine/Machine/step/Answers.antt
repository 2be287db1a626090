use Rattle.std.proofs.Common.{◌∙◌}
use Rattle.fk_engine.specs.Machines.{machine_of}
use Rattle.fk_engine.specs.Serving.{services_of}
use Rattle.fk_engine.proofs.Publications.{lines_after}
use Rattle.fk_engine.proofs.machine.Machine.step.Goals as goal

pub returns-clause-lines : goal.returns-clause-lines
returns-clause-lines g c =
    c.in_ok-lines.ensures
    ∙ lines_after (services_of g.T.Table.meaning c.args.services.now) c.args.times c.in_ok-op.ensures.given.0 (machine_of c.args.self.now) c.in_ok-op.op (machine_of c.operate.new.self)
    (c.in_ok-op.ensures.op c.in_ok-op.ensures.given.0 c.in_ok-op.ensures.given.1) (c.in_ok-op.ensures.machine c.in_ok-op.ensures.given.0 c.in_ok-op.ensures.given.1)
