-- What the answer says of a transaction that notes a ping is the operation by the table's meaning.
use Rattle.std.proofs.Common.{◌≡◌, ℕ, refl, arith}
use Rattle.std.proofs.lemmas.Bool.Decides.{nat_tests}
use Rattle.fk_print.specs.declared.op.Word.TheVariants as word
use Rattle.fk_store.specs.Answers.{IsTransact}
use Rattle.fk_store.specs.Conds.{session_of}
use Rattle.fk_store.specs.Meaning.{Meaning}
use Rattle.fk_store.specs.declared.answer.Transact.{Transact}
use Rattle.fk_store.specs.declared.answer.Transact.TheVariants as transact
use Rattle.fk_store.specs.declared.cond.Found.TheVariants as found
use Rattle.fk_spec.specs.Failing.{or_fault}
use Rattle.fk_watch.specs.Beating.{note_conds, note_op}
use Rattle.fk_watch.specs.BeatingSaid.{note_by}

pub note_said : (t : Meaning) (n session : ℕ) (r : Transact) → IsTransact t (note_conds n session) r → (r ≡ transact.NoMemory → ⊥) → note_by n r ≡ or_fault t.armed n word.Note (note_op n (session_of t session))
note_said t n session transact.Done i e = grind (arith, nat_tests)
note_said t n session (transact.Missed place (found.Number ping)) i e = grind (arith, nat_tests)
note_said t n session (transact.Missed place (found.Lock lock)) i e = grind (arith, nat_tests)
note_said t n session transact.Failed i e = grind (arith, nat_tests)
note_said t n session transact.NoMemory i e = absurd (e refl)
