use Rattle.std.proofs.Common.{◌+◌}
use Rattle.fk_engine.proofs.Running.{listed_more, low_more}
use Rattle.fk_engine.proofs.functions.Functions.start.Goals as goal

pub invariant_of-self-in-Ok : goal.invariant_of-self-in-Ok
invariant_of-self-in-Ok c = record {
  listed = rw c.in-Ok.ensures.ok (listed_more c.args.self.now.running.entries c.add.new.running.entries (c.args.self.now.started + 1) c.args.machine c.args.self.now.numbers c.in_ok-add.ensures.ok c.args.self.now.listed);
  low = low_more c.args.self.now.running.entries c.add.new.running.entries c.args.self.now.started c.args.machine c.in_ok-add.ensures.ok c.args.self.now.low;
}
