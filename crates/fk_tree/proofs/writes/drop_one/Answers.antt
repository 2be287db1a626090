use Rattle.fk_tree.proofs.Keeping.{rising_without}
use Rattle.fk_tree.proofs.writes.drop_one.Goals as goal

pub returns-in-DropName-clause-rising : goal.returns-in-DropName-clause-rising
returns-in-DropName-clause-rising c = rising_without c.args.slots.now.entries c.drop_name.new.slots.entries c.args.change.now.path c.in-DropName.name c.args.tx c.requires.rising c.drop_name.ensures.nodes
