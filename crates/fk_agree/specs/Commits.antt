-- The table after a commit.
use Rattle.std.specs.Prelude.{◌≡◌, ℕ, List, ◌∷◌, Some}
use Rattle.fk_print.specs.declared.entry.Entry.{Entry}
use Rattle.fk_print.specs.declared.op.Op.TheVariants as op
use Rattle.fk_wire.specs.declared.message.Pushed.{Pushed}
use Rattle.fk_store.specs.Writes.{all_written}
use Rattle.fk_settle.specs.Transaction.{commit_writes}
use Rattle.fk_stand.specs.Messages.{push_message_of}
use Rattle.fk_stand.specs.Tables.{table_after}
use Rattle.fk_spec.specs.Plan.{Plan}
use Rattle.fk_spec.specs.Next.{IsHistory}

-- Where a push commits, the writes that its message asks for leave the table as the rules say of the longer
-- history: the nodes, the locks and the last commits of all paths, the records of all sessions.
abbrev pub CommitIsWritten : Type 0
CommitIsWritten =
    (p : Plan) (n t faults : ℕ) (e : Entry) (h : List Entry) (x : Pushed) → IsHistory p (e ∷ h) → e.op ≡ op.CommitOk n t → push_message_of p t h ≡ Some x
    → all_written (commit_writes t x) (table_after p h faults) ≡ table_after p (e ∷ h) faults
