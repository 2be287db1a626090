use Rattle.std.proofs.Common.{◌≡◌, length, List}
use Rattle.fk_print.specs.declared.entry.Entry.{Entry}
use Rattle.fk_spec.specs.Plan.{plan_of}
use Rattle.fk_spec.specs.Start.{clock_of}
use Rattle.fk_run.specs.Turns.{AreFit, Takes}
use Rattle.fk_run.proofs.Turning.{IsLow}
use Rattle.fk_run.proofs.playing.take.Given as goal

abbrev pub invariant-taking : goal.invariant-taking
invariant-taking g l = record {
  same : l.world.deployment ≡ l.fn.world.deployment;
  fit : AreFit (plan_of l.fn.world.deployment) l.rest;
  early : IsLow l.fn.world.deployment l.rest (clock_of l.world.past);
  goes : (k : List Entry) → Takes (plan_of l.fn.world.deployment) l.rest l.world.past k → Takes (plan_of l.fn.world.deployment) l.fn.turns l.fn.world.past k;
}

abbrev pub decreases-taking : goal.decreases-taking
decreases-taking g l = length l.rest
