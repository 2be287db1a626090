use Rattle.fk_run.proofs.Worlds.{world_cut, world_written}
use Rattle.fk_run.proofs.top.run.Goals as goal

pub returns-then-status-eq-DONE-clause-ran : goal.returns-then-status-eq-DONE-clause-ran
returns-then-status-eq-DONE-clause-ran g c = λ e. world_written c.args.summary c.args.deployment c.deployment.result.now c.history.result.now c.in-Ok.world (g.K.Sink.taken c.args.sink.now) (g.K.Sink.taken c.write_run-status.new.sink)
    c.in-Ok.ensures.deployment c.in-Ok.ensures.going c.in-Ok.ensures.run c.deployment.ensures.same c.history.ensures.past (c.write_run-status.ensures.done e)

pub returns-else-status-eq-DONE-clause-front : goal.returns-else-status-eq-DONE-clause-front
returns-else-status-eq-DONE-clause-front g c = λ e. world_cut c.args.summary c.args.deployment c.deployment.result.now c.history.result.now c.in-Ok.world _ _
    c.in-Ok.ensures.deployment c.in-Ok.ensures.run c.deployment.ensures.same c.history.ensures.past (c.write_run-status.ensures.front e)
