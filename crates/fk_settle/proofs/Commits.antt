-- What is told of a commit is the rules' operation.
use Rattle.std.proofs.Common.{◌≡◌, ℕ, ◌+◌, Bool, true, false, cond, List, Option, Some, None, refl}
use Rattle.std.specs.Prelude.{◌==◌}
use Rattle.fk_base.specs.Path.{PathNames}
use Rattle.fk_print.specs.declared.op.Op.TheVariants as op
use Rattle.fk_print.specs.declared.op.Word.TheVariants as word
use Rattle.fk_store.specs.Conds.{session_of}
use Rattle.fk_store.specs.Meaning.{Meaning}
use Rattle.fk_spec.specs.Follower.{commit_locked}
use Rattle.fk_spec.specs.Locks.{Passed}
use Rattle.fk_settle.specs.Held.{first_passed}
use Rattle.fk_settle.specs.Verdicts.{commit_by, verdict_of, verdict_on}
use Rattle.fk_settle.specs.declared.settling.Verdict.TheVariants as verdict

-- by whether the table is armed, whether the request is the next, and the first lock that passed on
commit_chosen : (n tx settled : ℕ) (a b : Bool) (o : Option Passed) → commit_by n tx (cond a verdict.Failed (cond b (verdict_on o) (verdict.Settled settled))) ≡ cond a (op.Fault n word.Commit) (cond b (commit_locked n tx o) (op.CommitSettled n tx settled))
commit_chosen n tx settled true b o = refl
commit_chosen n tx settled false true None = refl
commit_chosen n tx settled false true (Some x) = refl
commit_chosen n tx settled false false o = refl

-- function n commits push tx, whose request is k of a session, where the locks of these paths are held by `inv`
pub commit_told : (t : Meaning) (n tx session k inv : ℕ) (ps : List PathNames) → commit_by n tx (verdict_of t session k inv ps) ≡ cond t.armed (op.Fault n word.Commit) (cond ((session_of t session).settled + 1 == k) (commit_locked n tx (first_passed inv t ps)) (op.CommitSettled n tx (session_of t session).settled))
commit_told t n tx session k inv ps = commit_chosen n tx (session_of t session).settled t.armed ((session_of t session).settled + 1 == k) (first_passed inv t ps)
