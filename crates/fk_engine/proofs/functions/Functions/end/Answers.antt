use Rattle.fk_engine.proofs.Running.{listed_less, low_less}
use Rattle.fk_engine.proofs.functions.Functions.end.Goals as goal

pub invariant_of-self : goal.invariant_of-self
invariant_of-self c = record {
  listed = rw c.remove.ensures (listed_less c.args.self.now.running.entries c.take_out.new.running.entries c.args.number c.args.self.now.numbers c.take_out.ensures c.args.self.now.listed);
  low = low_less c.args.self.now.running.entries c.take_out.new.running.entries c.args.self.now.started c.args.number c.take_out.ensures c.args.self.now.low;
}
