-- What becomes of a transaction that settles a request.
use Rattle.std.specs.Prelude.{ℕ, ◌+◌, ◌==◌, if◌then◌else◌, List, Option, Some, None}
use Rattle.fk_base.specs.Path.{PathNames}
use Rattle.fk_store.specs.Conds.{session_of}
use Rattle.fk_store.specs.Meaning.{Meaning}
use Rattle.fk_print.specs.declared.op.Op.{Op}
use Rattle.fk_print.specs.declared.op.Op.TheVariants as op
use Rattle.fk_print.specs.declared.op.Word.TheVariants as word
use Rattle.fk_spec.specs.Locks.{Passed}
use Rattle.fk_settle.specs.Held.{first_passed}
use Rattle.fk_settle.specs.declared.settling.Verdict.{Verdict}
use Rattle.fk_settle.specs.declared.settling.Verdict.TheVariants as verdict

abbrev pub verdict_on : Option Passed → Verdict
verdict_on None = verdict.Done
verdict_on (Some x) = verdict.Passed x.path x.holder x.moment

-- what becomes of a transaction that settles request k of a session where these locks are held
abbrev pub verdict_of : Meaning → ℕ → ℕ → ℕ → List PathNames → Verdict
verdict_of t session k inv ps =
    if t.armed then verdict.Failed else if (session_of t session).settled + 1 == k then verdict_on (first_passed inv t ps) else verdict.Settled (session_of t session).settled

-- the operation of function n that tells what became of the commit of push tx
abbrev pub commit_by : ℕ → ℕ → Verdict → Op
commit_by n tx verdict.Done = op.CommitOk n tx
commit_by n tx (verdict.Settled settled) = op.CommitSettled n tx settled
commit_by n tx (verdict.Passed path holder moment) = op.CommitLock n tx path holder moment
commit_by n tx verdict.Failed = op.Fault n word.Commit
