-- What the answer of a transaction says that notes a ping.
use Rattle.std.specs.Prelude.{ℕ}
use Rattle.fk_print.specs.declared.op.Op.{Op}
use Rattle.fk_print.specs.declared.op.Op.TheVariants as op
use Rattle.fk_print.specs.declared.op.Word.TheVariants as word
use Rattle.fk_store.specs.declared.answer.Transact.{Transact}
use Rattle.fk_store.specs.declared.answer.Transact.TheVariants as transact
use Rattle.fk_store.specs.declared.cond.Found.TheVariants as found

-- the operation of heartbeat n
abbrev pub note_by : ℕ → Transact → Op
note_by n transact.Done = op.NoteOk n
note_by n (transact.Missed place (found.Number ping)) = op.NoteMiss n ping
note_by n (transact.Missed place (found.Lock lock)) = op.Idle
note_by n transact.Failed = op.Fault n word.Note
note_by n transact.NoMemory = op.Idle
