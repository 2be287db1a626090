use Rattle.std.proofs.Common.{refl}
use Rattle.fk_store.proofs.Meanings.{wrote_table}
use Rattle.fk_store.proofs.list_table.ListTable.write_all.Goals as goal

pub returns-clause-ok : goal.returns-clause-ok
returns-clause-ok c =
    wrote_table c.args.writes.now c.args.self.now
    (record { rows = c.put_rows.new.rows; sessions = c.in_ok-sessions.sessions; done = c.done_after-done.result; armed = c.args.self.now.armed; faults = c.args.self.now.faults })
    c.in_ok-draft.draft.items c.add_rows.new.rows.items
    (rw c.as_slice.ensures.value at c.in_ok-draft.ensures) c.in_ok-add_rows.ensures.same c.put_rows.ensures
    (rw c.as_slice-2.ensures.value at c.in_ok-sessions.ensures) c.done_after-done.ensures refl refl
