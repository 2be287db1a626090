use Rattle.fk_index.proofs.Meanings.{granted_here, granted_over}
use Rattle.fk_index.proofs.index_table.IndexTable.grant.Goals as goal

pub returns-clause-here : goal.returns-clause-here
returns-clause-here c = granted_here c.args.path.now c.args.inv c.args.moment c.args.self.now.slots c.grant.new.slots (granted_over c.args.path.now c.args.inv c.args.moment c.args.self.now.slots c.add_slot.new.slots c.grant.new.slots c.in_ok-add_slot.ensures.same c.grant.ensures.records)
