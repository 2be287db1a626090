use Rattle.std.proofs.Common.{false, refl}
use Rattle.fk_store.proofs.Meanings.{starts_new}
use Rattle.fk_store.proofs.list_table.ListTable.new.Goals as goal

pub returns : goal.returns
returns c = starts_new c.args.sessions (record { rows = c.push.new.self; sessions = c.in_ok-new_sessions.field-0; done = 0; armed = false; faults = 0 }) c.root_row.result c.root_row.ensures.path c.root_row.ensures.kept (rw c.new-rows.ensures.items at c.in_ok-push.ensures.items) c.in_ok-new_sessions.ensures refl refl refl
