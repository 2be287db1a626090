use Rattle.fk_index.proofs.Putting.{all_put, touched_owned, touched_ready}
use Rattle.fk_index.proofs.installing.write_prepared.Goals as goal

pub install-requires-clause-ready : goal.install-requires-clause-ready
install-requires-clause-ready c = touched_ready c.args.drafts c.args.writes.now c.args.slots.now c.touch_all.new.slots c.args.owners.now c.touch_all.ensures c.requires.ready

pub install-requires-clause-owned : goal.install-requires-clause-owned
install-requires-clause-owned c = touched_owned c.args.writes.now c.args.slots.now c.touch_all.new.slots c.args.owners.now c.touch_all.ensures c.requires.owned

pub returns-clause-records : goal.returns-clause-records
returns-clause-records c = all_put c.args.drafts c.args.writes.now c.args.slots.now c.touch_all.new.slots c.install.new.slots c.touch_all.ensures c.install.ensures.records
