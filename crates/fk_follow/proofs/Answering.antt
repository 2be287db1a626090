-- What the answers of the services say is the operation by the services' meanings.
use Rattle.std.proofs.Common.{◌≡◌, ℕ, ◌+◌, Bool, true, false, cond, List, [], Option, Some, None, refl}
use Rattle.std.specs.Prelude.{◌==◌}
use Rattle.fk_base.specs.Path.{PathNames}
use Rattle.fk_print.specs.declared.op.Op.TheVariants as op
use Rattle.fk_print.specs.declared.op.Word.TheVariants as word
use Rattle.fk_store.specs.Conds.{session_of}
use Rattle.fk_store.specs.Meaning.{Meaning}
use Rattle.fk_tree.specs.Check.{Refusal}
use Rattle.fk_spec.specs.Follower.{Follower, refuse_locked}
use Rattle.fk_spec.specs.Locks.{Passed}
use Rattle.fk_settle.specs.Held.{first_passed}
use Rattle.fk_spec.specs.Failing.{or_fault}
use Rattle.fk_follow.specs.Operation.{commit_op, locked, lost_op, refuse_on}
use Rattle.fk_settle.specs.Verdicts.{commit_by, verdict_of, verdict_on}
use Rattle.fk_settle.proofs.Commits.{commit_told}
use Rattle.fk_follow.specs.Said.{lost_by, refuse_by}
use Rattle.fk_settle.specs.declared.settling.Verdict.TheVariants as verdict

pub commit_said : (t : Meaning) (n tx : ℕ) (f : Follower) → commit_by n tx (verdict_of t f.session f.k n (locked f)) ≡ or_fault t.armed n word.Commit (commit_op t n tx f)
commit_said t n tx f = commit_told t n tx f.session f.k n (locked f)

-- by whether the table is armed, whether the request is the next, and the first lock that passed on
refuse_chosen : (n : ℕ) (r : Refusal) (at settled : ℕ) (a b : Bool) (o : Option Passed) → refuse_by n r at (cond a verdict.Failed (cond b (verdict_on o) (verdict.Settled settled))) ≡ cond a (op.Fault n word.Refuse) (cond b (refuse_locked n r at o) (op.RefuseSettled n r.code r.place at settled))
refuse_chosen n r at settled true b o = refl
refuse_chosen n r at settled false true None = refl
refuse_chosen n r at settled false true (Some x) = refl
refuse_chosen n r at settled false false o = refl

pub refuse_said : (t : Meaning) (n : ℕ) (r : Refusal) (at : ℕ) (f : Follower) (ps : List PathNames) → refuse_by n r at (verdict_of t f.session f.k n ps) ≡ or_fault t.armed n word.Refuse (refuse_on t n r at f ps)
refuse_said t n r at f ps = refuse_chosen n r at (session_of t f.session).settled t.armed ((session_of t f.session).settled + 1 == f.k) (first_passed n t ps)

lost_chosen : (n settled : ℕ) (a b : Bool) → lost_by n (cond a verdict.Failed (cond b verdict.Done (verdict.Settled settled))) ≡ cond a (op.Fault n word.Lost) (cond b (op.LostOk n) (op.LostSettled n settled))
lost_chosen n settled true b = refl
lost_chosen n settled false true = refl
lost_chosen n settled false false = refl

pub lost_said : (t : Meaning) (n : ℕ) (f : Follower) → lost_by n (verdict_of t f.session f.k n []) ≡ or_fault t.armed n word.Lost (lost_op t n f)
lost_said t n f = lost_chosen n (session_of t f.session).settled t.armed ((session_of t f.session).settled + 1 == f.k)
