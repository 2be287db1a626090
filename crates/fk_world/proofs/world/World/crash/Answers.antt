use Rattle.std.proofs.Common.{◌∙◌}
use Rattle.fk_spec.specs.Plan.{plan_of}
use Rattle.fk_spec.specs.Schedule.{crashes}
use Rattle.fk_world.proofs.Emptying.{crash_made}
use Rattle.fk_world.proofs.world.World.crash.Goals as goal

pub crashing-preserved : goal.crashing-preserved
crashing-preserved g c = record {
  made = crash_made (plan_of c.crashing.self.deployment) c.crashing.rest.now (crashes c.args.numbers.now) c.args.self.now.past c.crashing.self.past c.play.new.self.past c.in-len1-up.len_at_least c.in_ok-play.ensures.added.past c.crashing.invariant.made;
  deployment = c.in_ok-play.ensures.deployment ∙ c.crashing.invariant.deployment;
  clock = c.in_ok-play.ensures.clock ∙ c.crashing.invariant.clock;
  spent = c.in_ok-play.ensures.added.going;
}
