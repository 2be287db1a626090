use Rattle.std.proofs.Common.{refl}
use Rattle.fk_index.specs.Parts.{with_node}
use Rattle.fk_index.proofs.Finding.{changed, missing}
use Rattle.fk_index.proofs.slots.put_node.Goals as goal

pub returns-in-Some : goal.returns-in-Some
returns-in-Some c = changed c.args.slots.now c.args.path.now c.get_mut.follows.lender (with_node c.args.node) c.in-Some.kept.now c.put_in.new.kept c.in-Some.ensures.value c.get_mut.follows.holds c.put_in.ensures

pub returns-in-None : goal.returns-in-None
returns-in-None c = missing c.args.slots.now c.get_mut.follows.lender-at-none c.args.path.now (with_node c.args.node) c.in-None.ensures.value refl c.get_mut.follows.holds-at-none
