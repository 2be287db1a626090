use Rattle.fk_store.proofs.Meanings.{granted_here}
use Rattle.fk_store.proofs.list_table.ListTable.grant.Goals as goal

pub returns-clause-here : goal.returns-clause-here
returns-clause-here c = granted_here c.args.path.now c.args.inv c.args.moment c.args.self.now.rows.items c.add_row.new.rows.items c.grant_row.new.rows.items c.in_ok-add_row.ensures.same c.grant_row.ensures
