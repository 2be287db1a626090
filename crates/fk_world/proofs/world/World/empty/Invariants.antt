use Rattle.std.proofs.Common.{◌≡◌, ◌-◌, ◌^◌, List, false, length}
use Rattle.fk_print.specs.declared.entry.Entry.{Entry}
use Rattle.fk_spec.specs.Plan.{plan_of}
use Rattle.fk_spec.specs.Start.{clock_of}
use Rattle.fk_spec.specs.Schedule.{Empties}
use Rattle.fk_world.specs.Draining.{GoesTo}
use Rattle.fk_world.proofs.world.World.empty.Given as goal

abbrev pub invariant-going : goal.invariant-going
invariant-going g l = record {
  emptied : (k : List Entry) → Empties (plan_of l.fn.self.deployment) l.self.past k → Empties (plan_of l.fn.self.deployment) l.fn.self.past k;
  so_far : GoesTo (plan_of l.fn.self.deployment) l.fn.self.past l.self.past;
  deployment : l.self.deployment ≡ l.fn.self.deployment;
  clock : clock_of l.self.past ≡ clock_of l.fn.self.past;
  spent : l.self.spent ≡ false;
}

abbrev pub decreases-going : goal.decreases-going
decreases-going g l = 2 ^ 62 - length l.self.past
