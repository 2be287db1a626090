use Rattle.std.proofs.Common.{◌≡◌, false, length}
use Rattle.fk_spec.specs.Schedule.{crashes}
use Rattle.fk_spec.specs.Start.{clock_of}
use Rattle.fk_world.proofs.Emptying.{HasMade}
use Rattle.fk_world.proofs.world.World.crash.Given as goal

abbrev pub invariant-crashing : goal.invariant-crashing
invariant-crashing g l = record {
  made : HasMade (crashes l.rest) (crashes l.fn.numbers) l.fn.self.past l.self.past;
  deployment : l.self.deployment ≡ l.fn.self.deployment;
  clock : clock_of l.self.past ≡ clock_of l.fn.self.past;
  spent : l.self.spent ≡ false;
}

abbrev pub decreases-crashing : goal.decreases-crashing
decreases-crashing g l = length l.rest
